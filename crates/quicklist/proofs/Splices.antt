-- A node is put into a list, or taken out.
use Rattle.std.proofs.Common.{◌≡◌, ℕ, ◌+◌, ◌-◌, ◌<◌, ◌≤◌, ◌≢◌, List, [], ◌∷◌, ◌++◌, map, length, get_or, set, sym, refl, ap, ◌∙◌, subst, ⊎_elim, append_assoc, arith, length-set}
use Rattle.std.proofs.Math.Path.{transport}
use Rattle.std.proofs.lemmas.List.{map-append}
use Rattle.std.proofs.lemmas.Bool.{cases_eq}
use Rattle.order.specs.Keys.{key_in}
use Rattle.store.specs.Lists.{Value}
use Rattle.nodes.specs.Nodes.{Nodes}
use Rattle.listpack.specs.declared.pack.Listpack.{Listpack}
use Rattle.listpack.specs.Packs.{values_in}
use Rattle.links.specs.Links.{from, tally, last_or, Links, listed, spare, Sound, Tied}
use Rattle.links.proofs.Paths.{one_same, one_other, tally_append, last_push, map_frame}
use Rattle.links.proofs.Tables.{split, once, within, apart, Change, changed_here, changed_else, changed_sound, spare_split, in_next, in_free, in_left, in_right, placed, out_in, out_prev_in, out_next_in, taken}
use Rattle.records.specs.declared.record.ListRecord.{ListRecord}
use Rattle.records.specs.Records.{key_at, first_at}
use Rattle.quicklist.specs.declared.table.Node.{Node}
use Rattle.quicklist.specs.declared.table.Tables.{Tables}
use Rattle.quicklist.specs.Tables.{next_in, prev_in, values_at, last_at, count_at, next_list, room, links, links_of, numbers, nodes_of, Joined, Refilled, Relisted}
use Rattle.quicklist.specs.Chains.{SplicedIn, SplicedOut}
use Rattle.quicklist.proofs.Records.{field_read, field_here, field_else, field_same}

-- ---- nodes by their lists

-- what the list at i holds, for the numbers in it
abbrev pub holds : List Node → Links → ℕ → Nodes
holds xs s i = map (values_at xs) (listed (length xs) s i)

-- a table whose nodes keep their values, but for some of one list and free ones
module _ (xs zs : List Node) (len : length zs ≡ length xs) (s t : Links) (e : ℕ) (sound : Sound (length xs) s) (l : e < length xs) (cs fs : List ℕ) (c : Change (length xs) s t e cs fs) where
  pub holds_sound : Sound (length zs) t
  holds_sound = subst (λ k. Sound k t) (sym len) (changed_sound (length xs) s t sound e l cs fs c)

  pub holds_here : holds zs t e ≡ map (values_at zs) cs
  holds_here = ap (λ k. map (values_at zs) (listed k t e)) len ∙ ap (map (values_at zs)) (changed_here (length xs) s t sound e l cs fs c)

  pub holds_else : ((m : ℕ) → 0 < m → tally m (listed (length xs) s e) + tally m (spare (length xs) s) ≡ 0 → values_at zs m ≡ values_at xs m) → (i : ℕ) → i < length xs → i ≢ e → holds zs t i ≡ holds xs s i
  holds_else same i k ne =
      ap (λ k. map (values_at zs) (listed k t i)) len ∙ ap (map (values_at zs)) (changed_else (length xs) s t sound e l cs fs c i k ne)
      ∙ map_frame (values_at xs) (values_at zs) (listed (length xs) s i) (λ m h. let a = apart (length xs) s sound e i m l k ne h in same m a.1 a.0)

-- the part of a list up to a member, where 0 stands for the start
pub split_after : (p : ℕ) (xs : List ℕ) → 0 < tally p (0 ∷ xs) → (ls : List ℕ) × (rs : List ℕ) × (xs ≡ ls ++ rs) × (p ≡ last_or 0 ls)
split_after p xs h =
    ⊎_elim
    (λ z. ([], xs, refl, z))
    (λ ne. let s = split p xs (omega (arith, one_other p 0 ne)) in (s.0 ++ p ∷ [], s.1, s.2 ∙ sym (append_assoc s.0 (p ∷ []) s.1), sym (last_push 0 s.0 p)))
    (cases_eq p 0)

-- ---- a node is put in

module _ (xs : List Node) (hs : List ListRecord) (free e p : ℕ) (sound : Sound (length xs) (links xs hs free)) (same : length hs ≡ length xs) (l : e < length xs) (more : 0 < free)
    (there : 0 < tally p (0 ∷ listed (length xs) (links xs hs free) e)) where
  pub record Room : Type 0 where
    pub free_in : free ≤ length xs
    pub p_in : p ≤ length xs
    pub q_in : from (first_at hs e) (next_in xs) p ≤ length xs

  pub has_room : Room
  has_room =
      let a = split_after p (listed (length xs) (links xs hs free) e) there in
      record {
        free_in = in_free (length xs) (links xs hs free) sound more e l a.0 a.1 a.2;
        p_in = subst (λ m. m ≤ length xs) (sym a.3) (in_left (length xs) (links xs hs free) sound more e l a.0 a.1 a.2);
        q_in = subst (λ m. m ≤ length xs) (sym (ap (from (first_at hs e) (next_in xs)) a.3 ∙ in_next (length xs) (links xs hs free) sound more e l a.0 a.1 a.2))
            (in_right (length xs) (links xs hs free) sound more e l a.0 a.1 a.2);
      }

  module _ (vs : List Value) (ws ys zs : List Node) (first last first' last' q rest : ℕ) (r : ListRecord) (filled : Refilled xs ws free vs)
      (is-q : q ≡ from (first_at hs e) (next_in xs) p) (is-rest : rest ≡ next_in xs free)
      (tied : Joined ws (first_at hs e) (last_at hs e) ys first last p free) (again : Joined ys first last zs first' last' free q)
      (r-first : r.first ≡ first') (r_last : r.last ≡ last') (len : length zs ≡ length xs) where
    abbrev s : Links
    s = links xs hs free

    abbrev t : Links
    t = links zs (set hs e r) rest

    e_in : e < length hs
    e_in = omega (arith, same)

    first_new : first_at (set hs e r) e ≡ first'
    first_new = field_here (λ (y : ListRecord). y.first) hs e 0 r e_in ∙ r-first

    last_new : last_at (set hs e r) e ≡ last'
    last_new = field_here (λ (y : ListRecord). y.last) hs e 0 r e_in ∙ r_last

    tied' : Tied (next_in xs) (prev_in xs) (first_at hs e) (last_at hs e) (next_in ys) (prev_in ys) first last p free
    tied' = subst (λ f. Tied f (prev_in xs) (first_at hs e) (last_at hs e) (next_in ys) (prev_in ys) first last p free) filled.nexts
        (subst (λ g. Tied (next_in ws) g (first_at hs e) (last_at hs e) (next_in ys) (prev_in ys) first last p free) filled.prevs tied.tied)

    again' : Tied (next_in ys) (prev_in ys) first last (next_in zs) (prev_in zs) (first_at (set hs e r) e) (last_at (set hs e r) e) free q
    again' = subst (λ a. Tied (next_in ys) (prev_in ys) first last (next_in zs) (prev_in zs) a (last_at (set hs e r) e) free q) (sym first_new)
        (subst (λ b. Tied (next_in ys) (prev_in ys) first last (next_in zs) (prev_in zs) first' b free q) (sym last_new) again.tied)

    module _ (ls rs : List ℕ) (is : listed (length xs) s e ≡ ls ++ rs) (is-p : p ≡ last_or 0 ls) where
      change : Change (length xs) s t e (ls ++ free ∷ rs) (spare_split (length xs) s sound more).0
      change = placed (length xs) s sound more e l ls rs is t (next_in ys) (prev_in ys) first last p q is-p is-q tied' again' is-rest
          (λ i ne. field_else (λ (y : ListRecord). y.first) hs e 0 r i ne) (λ i ne. field_else (λ (y : ListRecord). y.last) hs e 0 r i ne)

      pub opened_sound : Sound (length zs) t
      opened_sound = holds_sound xs zs len s t e sound l (ls ++ free ∷ rs) (spare_split (length xs) s sound more).0 change

      free_apart : (m : ℕ) → 0 < tally m (ls ++ rs) → m ≢ free
      free_apart m h z =
          let c : tally m (ls ++ rs) ≡ tally free (ls ++ rs) = ap (λ k. tally k (ls ++ rs)) z in
          omega (arith, once (length xs) s sound e free l, ap (tally free) is, ap (tally free) (spare_split (length xs) s sound more).1, one_same free)

      values_same : (m : ℕ) → 0 < m → m ≢ free → values_at zs m ≡ values_at xs m
      values_same m o ne = again.packs m ∙ tied.packs m ∙ filled.else m o ne

      values_new : values_at zs free ≡ vs
      values_new = again.packs free ∙ tied.packs free ∙ filled.here

      frame : (ms : List ℕ) → ((m : ℕ) → 0 < tally m ms → 0 < tally m (ls ++ rs)) → map (values_at zs) ms ≡ map (values_at xs) ms
      frame ms h = map_frame (values_at xs) (values_at zs) ms
          (λ m i. values_same m (within (length xs) s sound e m l (omega (arith, h m i, ap (tally m) is))).0 (free_apart m (h m i)))

      pub opened_here : holds zs t e ≡ map (values_at xs) ls ++ vs ∷ map (values_at xs) rs
      opened_here =
          holds_here xs zs len s t e sound l (ls ++ free ∷ rs) (spare_split (length xs) s sound more).0 change
          ∙ map-append (values_at zs) ls (free ∷ rs)
          ∙ (let a = frame ls (λ m i. omega (arith, tally_append m ls rs)) in let b = frame rs (λ m i. omega (arith, tally_append m ls rs)) in let v = values_new in cc)

      pub opened_else : (i : ℕ) → i < length xs → i ≢ e → holds zs t i ≡ holds xs s i
      opened_else = holds_else xs zs len s t e sound l (ls ++ free ∷ rs) (spare_split (length xs) s sound more).0 change
          (λ m o z. values_same m o (λ y. let c : tally m (free ∷ []) ≡ tally free (free ∷ []) = ap (λ k. tally k (free ∷ [])) y in
          omega (arith, ap (tally m) (spare_split (length xs) s sound more).1, one_same free)))

-- ---- the tables after a change to one list

-- one record is written over, with the key, the count and the link it had
pub relisted : (T T' : Tables) (e : ℕ) (r d : ListRecord) (ns : Nodes) → T'.lists.now ≡ set T.lists.now e r
    → r.name ≡ (get_or T.lists.now e d).name → r.count ≡ (get_or T.lists.now e d).count → r.next ≡ (get_or T.lists.now e d).next
    → T'.free_list ≡ T.free_list → T'.held ≡ T.held → room T' ≡ room T
    → nodes_of T' e ≡ ns → ((i : ℕ) → i < room T → i ≢ e → nodes_of T' i ≡ nodes_of T i) → Relisted T T' e ns
relisted T T' e r d ns is name count next free held len here else = record {
  here = here;
  else = else;
  keys = λ i. ap (λ hs. key_at hs i) is ∙ field_same (λ (y : ListRecord). key_in y.name) T.lists.now e [] r d (ap key_in name) i;
  firsts = λ i ne. ap (λ hs. first_at hs i) is ∙ field_else (λ (y : ListRecord). y.first) T.lists.now e 0 r i ne;
  counts = λ i. ap (λ hs. count_at hs i) is ∙ field_same (λ (y : ListRecord). y.count) T.lists.now e 0 r d count i;
  nexts = λ n. ap (λ hs. next_list hs n) is ∙ field_same (λ (y : ListRecord). y.next) T.lists.now e 0 r d next (n - 1);
  free = free;
  total = held;
  nodes = len;
  lists = ap length is ∙ length-set T.lists.now e r;
}

-- the tables after an opening
module _ (T : Tables) (e p : ℕ) (l : e < room T) (more : 0 < T.free_node) (there : 0 < tally p (0 ∷ numbers T e)) (zs : List Node) (r b : ListRecord) (rest : ℕ) (pack : Listpack)
    (spliced : SplicedIn T.nodes.now (get_or T.lists.now e b) T.free_node zs r rest p pack) (len : length zs ≡ room T) where
  first_old : (get_or T.lists.now e b).first ≡ first_at T.lists.now e
  first_old = let same = T.same in field_read (λ (y : ListRecord). y.first) T.lists.now e 0 b (omega arith)

  opened_tied : Joined spliced.before (first_at T.lists.now e) (last_at T.lists.now e) spliced.between spliced.first spliced.last p T.free_node
  opened_tied =
      let same = T.same in
      subst (λ a. Joined spliced.before a (last_at T.lists.now e) spliced.between spliced.first spliced.last p T.free_node) first_old
      (subst (λ a. Joined spliced.before (get_or T.lists.now e b).first a spliced.between spliced.first spliced.last p T.free_node) (field_read (λ (y : ListRecord). y.last) T.lists.now e 0 b (omega arith)) spliced.tied)

  is-q : from (get_or T.lists.now e b).first (next_in T.nodes.now) p ≡ from (first_at T.lists.now e) (next_in T.nodes.now) p
  is-q = ap (λ a. from a (next_in T.nodes.now) p) first_old

  pub open_sound : Sound (length zs) (links zs (set T.lists.now e r) rest)
  open_sound =
      let a = split_after p (numbers T e) there in
      opened_sound T.nodes.now T.lists.now T.free_node e p T.linked T.same l more there (values_in pack) spliced.before spliced.between zs spliced.first spliced.last r.first r.last _ rest r
      spliced.filled is-q spliced.rest opened_tied spliced.again refl refl len a.0 a.1 a.2 a.3

  pub open_nodes : (T' : Tables) → T'.nodes.now ≡ zs → T'.lists.now ≡ set T.lists.now e r → T'.free_node ≡ rest → T'.free_list ≡ T.free_list → T'.held ≡ T.held
      → (ls rs : List ℕ) → numbers T e ≡ ls ++ rs → p ≡ last_or 0 ls → Relisted T T' e (map (values_at T.nodes.now) ls ++ values_in pack ∷ map (values_at T.nodes.now) rs)
  open_nodes T' zs-is is rest-is free held ls rs u v =
      relisted T T' e r b _ is spliced.same.0 spliced.same.1 spliced.same.2 free held (ap length zs-is ∙ len)
      ((λ j. holds (zs-is j) (links (zs-is j) (is j) (rest-is j)) e)
      ∙ opened_here T.nodes.now T.lists.now T.free_node e p T.linked T.same l more there (values_in pack) spliced.before spliced.between zs spliced.first spliced.last r.first r.last _ rest r
      spliced.filled is-q spliced.rest opened_tied spliced.again refl refl len ls rs u v)
      (λ i k ne. (λ j. holds (zs-is j) (links (zs-is j) (is j) (rest-is j)) i)
      ∙ opened_else T.nodes.now T.lists.now T.free_node e p T.linked T.same l more there (values_in pack) spliced.before spliced.between zs spliced.first spliced.last r.first r.last _ rest r
      spliced.filled is-q spliced.rest opened_tied spliced.again refl refl len ls rs u v i k ne)

-- ---- a node is taken out

module _ (T : Tables) (e n : ℕ) (l : e < room T) (there : 0 < tally n (numbers T e)) where
  pub record Inside : Type 0 where
    pub some : 0 < n
    pub within : n ≤ room T
    pub prev : prev_in T.nodes.now n ≤ room T
    pub next : next_in T.nodes.now n ≤ room T

  pub inside : Inside
  inside =
      let a = split n (numbers T e) there in
      let w = out_in (room T) (links_of T) T.linked e l a.0 n a.1 a.2 in
      record {
        some = w.0;
        within = w.1;
        prev = out_prev_in (room T) (links_of T) T.linked e l a.0 n a.1 a.2;
        next = out_next_in (room T) (links_of T) T.linked e l a.0 n a.1 a.2;
      }

  -- the tables after it
  module _ (zs : List Node) (r b : ListRecord) (free : ℕ) (spliced : SplicedOut T.nodes.now (get_or T.lists.now e b) T.free_node zs r free n) (long : length zs ≡ room T) where
    abbrev ys : List Node
    ys = spliced.between

    abbrev u : Links
    u = links zs (set T.lists.now e r) n

    closed_tied : Tied (next_in T.nodes.now) (prev_in T.nodes.now) (first_at T.lists.now e) (last_at T.lists.now e) (next_in ys) (prev_in zs)
        (first_at (set T.lists.now e r) e) (last_at (set T.lists.now e r) e) (prev_in T.nodes.now n) (next_in T.nodes.now n)
    closed_tied =
        let same = T.same in
        let f = field_read (λ (y : ListRecord). y.first) T.lists.now e 0 b (omega arith) in
        let g = field_read (λ (y : ListRecord). y.last) T.lists.now e 0 b (omega arith) in
        let f' : r.first ≡ first_at (set T.lists.now e r) e = sym (field_here (λ (y : ListRecord). y.first) T.lists.now e 0 r (omega arith)) in
        let g' : r.last ≡ last_at (set T.lists.now e r) e = sym (field_here (λ (y : ListRecord). y.last) T.lists.now e 0 r (omega arith)) in
        transport (λ j. Tied (next_in T.nodes.now) (prev_in T.nodes.now) (f j) (g j) (next_in ys) (sym spliced.prevs j) (f' j) (g' j) (prev_in T.nodes.now n) (next_in T.nodes.now n)) spliced.tied.tied

    values_kept : (m : ℕ) → values_at zs m ≡ values_at T.nodes.now m
    values_kept m = spliced.packs m ∙ spliced.tied.packs m

    module _ (ls rs : List ℕ) (is : numbers T e ≡ ls ++ n ∷ rs) where
      gone : Change (room T) (links_of T) u e (ls ++ rs) (n ∷ spare (room T) (links_of T))
      gone = taken (room T) (links_of T) T.linked e l ls n rs is u (next_in ys) closed_tied spliced.led refl
          (λ i ne. field_else (λ (y : ListRecord). y.first) T.lists.now e 0 r i ne) (λ i ne. field_else (λ (y : ListRecord). y.last) T.lists.now e 0 r i ne)

      gone_here : holds zs u e ≡ map (values_at T.nodes.now) ls ++ map (values_at T.nodes.now) rs
      gone_here = holds_here T.nodes.now zs long (links_of T) u e T.linked l (ls ++ rs) (n ∷ spare (room T) (links_of T)) gone
          ∙ map_frame (values_at T.nodes.now) (values_at zs) (ls ++ rs) (λ m h. values_kept m)
          ∙ map-append (values_at T.nodes.now) ls rs

    pub close_sound : Sound (length zs) (links zs (set T.lists.now e r) free)
    close_sound =
        let a = split n (numbers T e) there in
        subst (λ m. Sound (length zs) (links zs (set T.lists.now e r) m)) (sym spliced.freed) (holds_sound T.nodes.now zs long (links_of T) u e T.linked l (a.0 ++ a.1) (n ∷ spare (room T) (links_of T)) (gone a.0 a.1 a.2))

    pub close_nodes : (T' : Tables) → T'.nodes.now ≡ zs → T'.lists.now ≡ set T.lists.now e r → T'.free_node ≡ free → T'.free_list ≡ T.free_list → T'.held ≡ T.held
        → (ls rs : List ℕ) → numbers T e ≡ ls ++ n ∷ rs → Relisted T T' e (map (values_at T.nodes.now) ls ++ map (values_at T.nodes.now) rs)
    close_nodes T' zs-is hs-is f-is list held ls rs is =
        let n-is : T'.free_node ≡ n = f-is ∙ spliced.freed in
        relisted T T' e r b _ hs-is spliced.same.0 spliced.same.1 spliced.same.2 list held (ap length zs-is ∙ long)
        ((λ j. holds (zs-is j) (links (zs-is j) (hs-is j) (n-is j)) e) ∙ gone_here ls rs is)
        (λ i k ne. (λ j. holds (zs-is j) (links (zs-is j) (hs-is j) (n-is j)) i)
        ∙ holds_else T.nodes.now zs long (links_of T) u e T.linked l (ls ++ rs) (n ∷ spare (room T) (links_of T)) (gone ls rs is) (λ m o z. values_kept m) i k ne)
