-- All that holds of the tables, before and after a change of one list.
use Rattle.std.proofs.Common.{◌≡◌, ℕ, zero, suc, ◌+◌, ◌-◌, ◌<◌, ◌≤◌, cond, eqb, ◌≢◌, List, [], ◌∷◌, map, length, get_or, set, sym, refl, ap, ◌∙◌, subst, ⊎_elim, add-one, arith, length-append, length-set, get_or-set_other, get_or-set_same, eq-eqb, ne_eqb}
use Rattle.std.proofs.Math.ListN.{length-map}
use Rattle.std.proofs.Math.Seq.{map-set_same}
use Rattle.std.proofs.ByRecursion.{All-get_or, All-from_get_or}
use Rattle.std.proofs.lemmas.List.{get_or-map}
use Rattle.std.proofs.lemmas.List.Edits.{length-remove}
use Rattle.std.proofs.lemmas.Bool.{cases_eq, cond-true, cond-false}
use Rattle.order.specs.Keys.{Key, key_in}
use Rattle.store.specs.declared.Side.{Side}
use Rattle.store.specs.declared.Side.TheVariants.{Left, Right}
use Rattle.store.specs.Lists.{Value}
use Rattle.store.specs.Answers.{joined}
use Rattle.nodes.specs.Nodes.{Nodes, flat, Filled, cut, pushed}
use Rattle.listpack.specs.Packs.{takes}
use Rattle.nodes.specs.Books.{record_at}
use Rattle.nodes.proofs.NodeLaws.{few_nodes, flat_cut, filled_cut, pushed_none}
use Rattle.links.specs.Links.{chain, sum, listed, Sound, Pool}
use Rattle.links.proofs.Sums.{sum_one, sum_part, sum_le}
use Rattle.links.proofs.Tables.{first_none, first_split}
use Rattle.links.proofs.Pools.{first_some, pool_same, pool_taken, pool_given, free_within, free_unused}
use Rattle.records.specs.declared.record.ListRecord.{ListRecord}
use Rattle.records.specs.Records.{key_at, first_at}
use Rattle.quicklist.specs.declared.table.Tables.{Tables}
use Rattle.quicklist.specs.Tables.{values_at, last_at, count_at, next_list, used, room, links, links_of, numbers, nodes_of, book_of, Whole, Relisted, Written, Rebooked}
use Rattle.quicklist.proofs.Records.{field_read, field_here, field_else}

-- ---- a record written over

pub record_written : (T T' : Tables) (e : ℕ) (r d : ListRecord) → e < length T.lists.now → T'.lists.now ≡ set T.lists.now e r
    → r.first ≡ (get_or T.lists.now e d).first → r.last ≡ (get_or T.lists.now e d).last
    → T'.nodes.now ≡ T.nodes.now → T'.free_node ≡ T.free_node → T'.free_list ≡ T.free_list → T'.held ≡ T.held
    → Written T T' e (key_in r.name) r.count r.next
record_written T T' e r d l is first last nodes node free held =
    let hs = T.lists.now in
    record {
      key = ap (λ ms. key_at ms e) is ∙ field_here (λ (y : ListRecord). key_in y.name) hs e [] r l;
      keys = λ i ne. ap (λ ms. key_at ms i) is ∙ field_else (λ (y : ListRecord). key_in y.name) hs e [] r i ne;
      count = ap (λ ms. count_at ms e) is ∙ field_here (λ (y : ListRecord). y.count) hs e 0 r l;
      counts = λ i ne. ap (λ ms. count_at ms i) is ∙ field_else (λ (y : ListRecord). y.count) hs e 0 r i ne;
      link = let q : suc e - 1 ≡ e = omega arith in ap (λ ms. next_list ms (suc e)) is ∙ ap (λ i. get_or (map (λ (y : ListRecord). y.next) (set hs e r)) i 0) q ∙ field_here (λ (y : ListRecord). y.next) hs e 0 r l;
      links = λ n o ne. ap (λ ms. next_list ms n) is ∙ field_else (λ (y : ListRecord). y.next) hs e 0 r (n - 1) (λ z. ne (omega arith));
      firsts = ap first_at is ∙ ap (λ ms i. get_or ms i 0) (map-set_same (λ (y : ListRecord). y.first) hs e r d first);
      lasts = ap last_at is ∙ ap (λ ms i. get_or ms i 0) (map-set_same (λ (y : ListRecord). y.last) hs e r d last);
      long = ap length is ∙ length-set hs e r;
      nodes = nodes;
      node = node;
      free = free;
      held = held;
    }

-- ---- the records as a book

abbrev pub blank : ListRecord
blank = record { name = record { len = 0; bytes = [] }; first = 0; last = 0; count = 0; next = 0 }

pub book_long : (T : Tables) → length (book_of T) ≡ length T.lists.now
book_long T = length-map T.lists.now _

pub book_at : (T : Tables) (i : ℕ) → i < length T.lists.now → record_at (book_of T) i ≡ (key_at T.lists.now i, nodes_of T i)
book_at T i l =
    get_or-map (λ (r : ListRecord). (key_in r.name, map (values_at T.nodes.now) (chain (links_of T).next (room T) r.first))) T.lists.now i blank ([], []) l
    ∙ (λ k. (field_read (λ (r : ListRecord). key_in r.name) T.lists.now i [] blank l k, map (values_at T.nodes.now) (chain (links_of T).next (room T) (field_read (λ (r : ListRecord). r.first) T.lists.now i 0 blank l k))))

same_by : {X : Type 0} (d : X) (xs ys : List X) → length xs ≡ length ys → ((i : ℕ) → i < length xs → get_or xs i d ≡ get_or ys i d) → xs ≡ ys
same_by d [] [] e h = refl
same_by d [] (y ∷ ys) e h = absurd (omega arith)
same_by d (x ∷ xs) [] e h = absurd (omega arith)
same_by d (x ∷ xs) (y ∷ ys) e h =
    let a : x ≡ y = h 0 (omega arith) in
    let b = same_by d xs ys (omega arith) (λ i l. h (suc i) (omega arith)) in
    λ k. a k ∷ b k

-- ---- a list in use has a first node

module _ (T : Tables) (sound : Sound (room T) (links_of T)) (e : ℕ) (l : e < room T) where
  pub used_some : 0 < length (nodes_of T e) → first_at T.lists.now e ≢ 0
  used_some h z = omega (arith, h, ap (λ ns. length (map (values_at T.nodes.now) ns)) (first_none (room T) (links_of T) sound e l z))

  pub used_none : length (nodes_of T e) ≡ 0 → first_at T.lists.now e ≡ 0
  used_none h = ⊎_elim (λ z. z)
      (λ ne. let a = first_split (room T) (links_of T) sound e l (omega (arith, ne)) in absurd (omega (arith, h, ap (λ ns. length (map (values_at T.nodes.now) ns)) a.1)))
      (cases_eq (first_at T.lists.now e) 0)

  pub used_here : first_at T.lists.now e ≢ 0 → 0 < length (nodes_of T e)
  used_here ne = let a = first_split (room T) (links_of T) sound e l (omega (arith, ne)) in omega (arith, ap (λ ns. length (map (values_at T.nodes.now) ns)) a.1)

used_is_one : (n : ℕ) → n ≢ 0 → ◌≡◌ {A = ℕ} (cond (eqb n 0) 0 1) 1
used_is_one n h = cond-false (eqb n 0) 0 1 (ne_eqb n 0 h)

pub used_is_none : (n : ℕ) → n ≡ 0 → ◌≡◌ {A = ℕ} (cond (eqb n 0) 0 1) 0
used_is_none n h = cond-true (eqb n 0) 0 1 (eq-eqb n 0 h)

-- ---- what fits

pub loaded_filled : (T : Tables) → Whole T → (e : ℕ) → e < room T → Filled (nodes_of T e)
loaded_filled T w e l = All-from_get_or (λ n. 0 < length n) (nodes_of T e) [] (λ i k. w.loaded e i l k)

module _ (T : Tables) (w : Whole T) where
  -- each listed node holds an element, and each list in use has a node
  nodes_few : sum (λ e. length (numbers T e)) (room T) ≤ T.held
  nodes_few = omega (
    arith,
    w.totalled,
    sum_le (λ e. length (numbers T e)) (λ e. length (flat (nodes_of T e))) (room T)
        (λ e l. omega (arith, few_nodes (nodes_of T e) (loaded_filled T w e l), length-map (numbers T e) (values_at T.nodes.now))),
  )

  used_few : (e : ℕ) → e < room T → used T.lists.now (suc e) ≤ length (numbers T e)
  used_few e l = ⊎_elim
      (λ z. omega (arith, used_is_none (first_at T.lists.now e) z))
      (λ ne. omega (arith, used_is_one (first_at T.lists.now e) ne, used_here T w.linked e l ne, length-map (numbers T e) (values_at T.nodes.now)))
      (cases_eq (first_at T.lists.now e) 0)

  -- so while there is room for an element, a node and a record are free
  pub node_left : T.held < room T → 0 < T.free_node
  node_left h = first_some (links_of T).next (room T) T.free_node (omega (arith, nodes_few, w.linked.full))

  pub list_left : T.held < room T → 0 < T.free_list
  list_left h = first_some (next_list T.lists.now) (room T) T.free_list (omega (arith, nodes_few, w.pooled.full, sum_le (λ e. used T.lists.now (suc e)) (λ e. length (numbers T e)) (room T) used_few))

  pub count_small : (e : ℕ) → e < room T → count_at T.lists.now e ≤ T.held
  count_small e l = omega (arith, w.counted e l, w.totalled, sum_part (λ i. length (flat (nodes_of T i))) e (room T) l)

-- ---- after a change of one list: its nodes, then its record, then the count of all

module _ (T T₁ T₂ : Tables) (e : ℕ) (k : Key) (c next : ℕ) (ns : Nodes) (w : Whole T) (l : e < room T) (re : Relisted T T₁ e ns) (sound : Sound (room T₁) (links_of T₁)) (wr : Written T₁ T₂ e k c next) where
  links_same : links_of T₂ ≡ links_of T₁
  links_same = λ j. record { next = (links (wr.nodes j) [] 0).next; prev = (links (wr.nodes j) [] 0).prev; first = wr.firsts j; last = wr.lasts j; free = wr.node j }

  same_room : room T₂ ≡ room T
  same_room = ap length wr.nodes ∙ re.nodes

  nodes_then : (i : ℕ) → nodes_of T₂ i ≡ nodes_of T₁ i
  nodes_then i = λ j. map (values_at (wr.nodes j)) (listed (length (wr.nodes j)) (links_same j) i)

  nodes_here : nodes_of T₂ e ≡ ns
  nodes_here = nodes_then e ∙ re.here

  nodes_else : (i : ℕ) → i < room T → i ≢ e → nodes_of T₂ i ≡ nodes_of T i
  nodes_else i o ne = nodes_then i ∙ re.else i o ne

  by_place : (P : ℕ → Nodes → Type 0) → P e ns → ((i : ℕ) → i < room T → i ≢ e → P i (nodes_of T i)) → (i : ℕ) → i < room T₂ → P i (nodes_of T₂ i)
  by_place P h o i b = ⊎_elim
      (λ q. subst (λ m. P m (nodes_of T₂ m)) (sym q) (subst (P e) (sym nodes_here) h))
      (λ ne. let b' : i < room T = omega (arith, same_room) in subst (P i) (sym (nodes_else i b' ne)) (o i b' ne))
      (cases_eq i e)

  lists_long : length T₂.lists.now ≡ length T.lists.now
  lists_long = wr.long ∙ re.lists

  keys_else : (i : ℕ) → i ≢ e → key_at T₂.lists.now i ≡ key_at T.lists.now i
  keys_else i ne = wr.keys i ne ∙ re.keys i

  book_after : book_of T₂ ≡ set (book_of T) e (k, ns)
  book_after = same_by ([], []) (book_of T₂) (set (book_of T) e (k, ns)) (book_long T₂ ∙ lists_long ∙ sym (length-set (book_of T) e (k, ns) ∙ book_long T))
      (λ i b.
      let b₂ : i < length T₂.lists.now = omega (arith, book_long T₂) in
      let b' : i < length T.lists.now = omega (arith, book_long T₂, lists_long) in
      ⊎_elim
      (λ q. let q' : record_at (book_of T₂) i ≡ record_at (book_of T₂) e = ap (record_at (book_of T₂)) q in
      q' ∙ book_at T₂ e (omega arith) ∙ (λ j. (wr.key j, nodes_here j))
      ∙ sym (ap (record_at (set (book_of T) e (k, ns))) q ∙ get_or-set_same (book_of T) e (k, ns) ([], []) (omega (arith, book_long T))))
      (λ ne. book_at T₂ i b₂ ∙ (λ j. (keys_else i ne j, nodes_else i (omega (arith, w.sized.0)) ne j)) ∙ sym (book_at T i b')
      ∙ sym (get_or-set_other (book_of T) e i (k, ns) ([], []) ne))
      (cases_eq i e))

  module _ (filled : Filled ns) (count : c ≡ length (flat ns)) (free held : ℕ) (total : held + length (flat (nodes_of T e)) ≡ T.held + length (flat ns)) (fits : held ≤ room T)
      (alone : (i : ℕ) → i < room T → i ≢ e → 0 < length (nodes_of T i) → key_at T.lists.now i ≡ k → ⊥)
      (pool : Pool (room T) (next_list T₂.lists.now) (used T₂.lists.now) free) (same : length T₂.lists.now ≡ room T₂) (linked : Sound (room T₂) (links_of T₂)) where
    abbrev new : Tables
    new = record { nodes = T₂.nodes; lists = T₂.lists; free_node = T₂.free_node; free_list = free; held = held; same = same; linked = linked }

    whole_then : Whole new
    whole_then = record {
      sized = (same, omega (arith, w.sized.1, same_room), omega (arith, w.sized.2, same_room));
      within = omega (arith, fits, same_room);
      linked = linked;
      pooled = subst (λ m. Pool m (next_list T₂.lists.now) (used T₂.lists.now) (free)) (sym same_room) pool;
      loaded = λ i m b o. by_place (λ _ ms. (q : ℕ) → q < length ms → 0 < length (get_or ms q [])) (λ q h. All-get_or (λ n. 0 < length n) ns q [] h filled) (λ a b' ne q h. w.loaded a q b' h) i b m o;
      counted = λ i b. by_place (λ a ms. count_at T₂.lists.now a ≡ length (flat ms)) (wr.count ∙ count) (λ a b' ne. wr.counts a ne ∙ re.counts a ∙ w.counted a b') i b;
      totalled = omega (
        arith,
        total,
        w.totalled,
        ap (λ ms. length (flat ms)) nodes_here,
        ap (sum (λ i. length (flat (nodes_of T₂ i)))) same_room,
        sum_one (λ i. length (flat (nodes_of T i))) (λ i. length (flat (nodes_of T₂ i))) e (room T) l (λ i b ne. ap (λ ms. length (flat ms)) (nodes_else i b ne)),
      );
      named = named_then;
    }
      where
        other : (i : ℕ) → i < room T₂ → i ≢ e → 0 < length (nodes_of T₂ i) → key_at T₂.lists.now i ≡ k → ⊥
        other i b ne h q = let b' : i < room T = omega (arith, same_room) in alone i b' ne (omega (arith, ap length (nodes_else i b' ne))) (sym (keys_else i ne) ∙ q)

        named_then : (a i : ℕ) → (a < room T₂) × (i < room T₂) × (i ≢ a) × (0 < length (nodes_of T₂ a)) × (0 < length (nodes_of T₂ i)) × (key_at T₂.lists.now i ≡ key_at T₂.lists.now a) → ⊥
        named_then a i h = ⊎_elim
            (λ q. let ne : i ≢ e = λ z. h.2 (z ∙ sym q) in other i h.1 ne h.4 (h.5 ∙ ap (key_at T₂.lists.now) q ∙ wr.key))
            (λ na. ⊎_elim
            (λ q. other a h.0 na h.3 (sym h.5 ∙ ap (key_at T₂.lists.now) q ∙ wr.key))
            (λ ni. let a' : a < room T = omega (arith, h.0, same_room) in let i' : i < room T = omega (arith, h.1, same_room) in
            w.named a i (a', i', h.2, omega (arith, h.3, ap length (nodes_else a a' na)), omega (arith, h.4, ap length (nodes_else i i' ni)), sym (keys_else i ni) ∙ h.5 ∙ keys_else a na))
            (cases_eq i e))
            (cases_eq a e)

    pub rebooked : Rebooked T new e k ns
    rebooked = record { whole = whole_then; book = book_after; nodes = same_room }

  -- ---- the free records

  first_then : (i : ℕ) → first_at T₂.lists.now i ≡ first_at T₁.lists.now i
  first_then i = λ j. wr.firsts j i

  used_else : (n : ℕ) → n ≢ suc e → used T₂.lists.now n ≡ used T.lists.now n
  used_else zero ne = refl
  used_else (suc i) ne = ap (λ m. cond (eqb m 0) 0 1) (first_then i ∙ re.firsts i (λ z. ne (ap suc z)))

  used_now : 0 < length ns → used T₂.lists.now (suc e) ≡ 1
  used_now h = used_is_one (first_at T₂.lists.now e) (λ z. used_some T₁ sound e (omega (arith, re.nodes)) (omega (arith, ap length re.here)) (sym (first_then e) ∙ z))

  free_now : length ns ≡ 0 → used T₂.lists.now (suc e) ≡ 0
  free_now h = used_is_none (first_at T₂.lists.now e) (first_then e ∙ used_none T₁ sound e (omega (arith, re.nodes)) (ap length re.here ∙ h))

  links_else : (n : ℕ) → 0 < n → n ≢ suc e → next_list T₂.lists.now n ≡ next_list T.lists.now n
  links_else n o ne = wr.links n o ne ∙ re.nexts n

  -- a list in use that stays in use
  module _ (was : 0 < length (nodes_of T e)) (stays : 0 < length ns) (link : next ≡ next_list T.lists.now (suc e)) where
    used_before : used T.lists.now (suc e) ≡ 1
    used_before = used_is_one (first_at T.lists.now e) (used_some T w.linked e l was)

    used_same : (n : ℕ) → used T₂.lists.now n ≡ used T.lists.now n
    used_same n = ⊎_elim (λ q. ap (used T₂.lists.now) q ∙ used_now stays ∙ sym (ap (used T.lists.now) q ∙ used_before)) (used_else n) (cases_eq n (suc e))

    next_same : (n : ℕ) → 0 < n → next_list T₂.lists.now n ≡ next_list T.lists.now n
    next_same n o = ⊎_elim (λ q. ap (next_list T₂.lists.now) q ∙ wr.link ∙ link ∙ sym (ap (next_list T.lists.now) q)) (links_else n o) (cases_eq n (suc e))

    pub pool_kept : Pool (room T) (next_list T₂.lists.now) (used T₂.lists.now) T.free_list
    pool_kept = pool_same (room T) (next_list T.lists.now) (used T.lists.now) T.free_list w.pooled (next_list T₂.lists.now) (used T₂.lists.now) next_same used_same

  -- a free record that is in use now: the first of the free ones
  pub pool_less : T.free_list ≡ suc e → 0 < length ns → Pool (room T) (next_list T₂.lists.now) (used T₂.lists.now) (next_list T.lists.now (suc e))
  pool_less f stays =
      subst (λ m. Pool (room T) (next_list T₂.lists.now) (used T₂.lists.now) (next_list T.lists.now m)) f
      (pool_taken (room T) (next_list T.lists.now) (used T.lists.now) T.free_list w.pooled (omega (arith, f)) (next_list T₂.lists.now) (used T₂.lists.now)
      (λ m o ne. links_else m o (λ z. ne (z ∙ sym f))) (ap (used T₂.lists.now) f ∙ used_now stays) (λ m ne. used_else m (λ z. ne (z ∙ sym f))))

  -- a list in use that has no element left
  pub pool_more : 0 < length (nodes_of T e) → length ns ≡ 0 → next ≡ T.free_list → Pool (room T) (next_list T₂.lists.now) (used T₂.lists.now) (suc e)
  pool_more was gone link =
      pool_given (room T) (next_list T.lists.now) (used T.lists.now) T.free_list w.pooled (suc e) (used_is_one (first_at T.lists.now e) (used_some T w.linked e l was))
      (next_list T₂.lists.now) (used T₂.lists.now) (wr.link ∙ link) (λ m o ne. links_else m o ne) (free_now gone) used_else

-- a record written over that keeps the ends of its list
pub record_linked : (T : Tables) (e : ℕ) (r d : ListRecord) → r.first ≡ (get_or T.lists.now e d).first → r.last ≡ (get_or T.lists.now e d).last → Sound (room T) (links T.nodes.now (set T.lists.now e r) T.free_node)
record_linked T e r d f l =
    let a = map-set_same (λ (y : ListRecord). y.first) T.lists.now e r d f in
    let b = map-set_same (λ (y : ListRecord). y.last) T.lists.now e r d l in
    subst (Sound (room T)) (λ j. record { next = (links_of T).next; prev = (links_of T).prev; first = λ i. get_or (sym a j) i 0; last = λ i. get_or (sym b j) i 0; free = T.free_node }) T.linked

-- ---- how many

pub some_node : (ns : Nodes) → 0 < length (flat ns) → 0 < length ns
some_node [] h = h
some_node (n ∷ ns) h = omega arith

pub held_small : (T : Tables) → Whole T → T.held ≤ 4096
held_small T w = omega (arith, w.within, w.sized.2)

-- ---- a list in use with one element more

-- the fields of a record as they were before the list's nodes changed
module _ (T T₁ : Tables) (e : ℕ) (ns : Nodes) (d : ListRecord) (w : Whole T) (l : e < room T) (re : Relisted T T₁ e ns) where
  abbrev it : ListRecord
  it = get_or T₁.lists.now e d

  e_in : e < length T₁.lists.now
  e_in = omega (arith, re.lists, w.sized.0)

  pub it_key : key_in it.name ≡ key_at T.lists.now e
  it_key = field_read (λ (r : ListRecord). key_in r.name) T₁.lists.now e [] d e_in ∙ re.keys e

  pub it_count : it.count ≡ length (flat (nodes_of T e))
  it_count = field_read (λ (r : ListRecord). r.count) T₁.lists.now e 0 d e_in ∙ re.counts e ∙ w.counted e l

  pub it_next : it.next ≡ next_list T.lists.now (suc e)
  it_next =
      let q : suc e - 1 ≡ e = omega arith in
      field_read (λ (r : ListRecord). r.next) T₁.lists.now e 0 d e_in ∙ ap (λ i. get_or (map (λ (r : ListRecord). r.next) T₁.lists.now) i 0) (sym q) ∙ re.nexts (suc e)

  pub it_small : it.count ≤ 4096
  it_small = omega (arith, it_count, w.counted e l, count_small T w e l, w.totalled, w.sized.2, held_small T w)

  module _ (T₂ : Tables) (was : 0 < length (nodes_of T e)) (sound : Sound (room T₁) (links_of T₁)) (filled : Filled ns) where
    alone : (i : ℕ) → i < room T → i ≢ e → 0 < length (nodes_of T i) → key_at T.lists.now i ≡ key_at T.lists.now e → ⊥
    alone i b ne h q = w.named e i (l, b, ne, was, h, q)

    pub grown : T.held < room T → Written T₁ T₂ e (key_in it.name) (it.count + 1) it.next → length (flat ns) ≡ length (flat (nodes_of T e)) + 1
        → (same : length T₂.lists.now ≡ room T₂) (linked : Sound (room T₂) (links_of T₂))
        → Rebooked T (record { nodes = T₂.nodes; lists = T₂.lists; free_node = T₂.free_node; free_list = T₂.free_list; held = T₂.held + 1; same = same; linked = linked }) e (key_at T.lists.now e) ns
    grown left wr one same linked =
        let wr' = subst (λ k. Written T₁ T₂ e k (it.count + 1) it.next) it_key wr in
        rebooked T T₁ T₂ e (key_at T.lists.now e) (it.count + 1) it.next ns w l re sound wr' filled (omega (arith, it_count, one)) T₂.free_list (T₂.held + 1)
        (omega (arith, wr.held, re.total, one)) (omega (arith, wr.held, re.total, left)) alone
        (subst (Pool (room T) (next_list T₂.lists.now) (used T₂.lists.now)) (sym (wr.free ∙ re.free))
        (pool_kept T T₁ T₂ e (key_at T.lists.now e) (it.count + 1) it.next ns w l re sound wr' was (some_node ns (omega (arith, one))) it_next)) same linked

pub joined_long : (s : Side) (vs : List Value) (v : Value) → length (joined s vs v) ≡ length vs + 1
joined_long Left vs v = omega arith
joined_long Right vs v = length-append vs (v ∷ []) ∙ omega arith

-- ---- a list in use with one element less

module _ (T T₁ T₂ : Tables) (e i : ℕ) (w : Whole T) (l : e < room T) (there : i < length (flat (nodes_of T e))) (re : Relisted T T₁ e (cut (nodes_of T e) i)) (sound : Sound (room T₁) (links_of T₁)) where
  abbrev old : ListRecord
  old = get_or T₁.lists.now e blank

  less : length (flat (cut (nodes_of T e) i)) + 1 ≡ length (flat (nodes_of T e))
  less = ap (λ vs. length vs + 1) (flat_cut (nodes_of T e) i there) ∙ omega (arith, length-remove (flat (nodes_of T e)) i there)

  cut_filled : Filled (cut (nodes_of T e) i)
  cut_filled = filled_cut (nodes_of T e) i (loaded_filled T w e l)

  was_some : 0 < length (nodes_of T e)
  was_some = some_node (nodes_of T e) (omega arith)

  pub old_some : 1 ≤ old.count
  old_some = omega (arith, it_count T T₁ e (cut (nodes_of T e) i) blank w l re)

  pub held_some : 1 ≤ T₁.held
  held_some = omega (arith, re.total, w.totalled, sum_part (λ a. length (flat (nodes_of T a))) e (room T) l)

  others : (a : ℕ) → a < room T → a ≢ e → 0 < length (nodes_of T a) → key_at T.lists.now a ≡ key_at T.lists.now e → ⊥
  others a b ne h q = w.named e a (l, b, ne, was_some, h, q)

  -- the list is left empty
  pub emptied : old.first ≡ 0 → Written T₁ T₂ e (key_in old.name) (old.count - 1) T₁.free_list
      → (free : ℕ) → free ≡ e + 1 → (same : length T₂.lists.now ≡ room T₂) (linked : Sound (room T₂) (links_of T₂))
      → Rebooked T (record { nodes = T₂.nodes; lists = T₂.lists; free_node = T₂.free_node; free_list = free; held = T₂.held - 1; same = same; linked = linked }) e (key_at T.lists.now e) (cut (nodes_of T e) i)
  emptied none wr free is same linked =
      let ns = cut (nodes_of T e) i in
      let k = key_at T.lists.now e in
      let wr' = subst (λ q. Written T₁ T₂ e q (old.count - 1) T₁.free_list) (it_key T T₁ e ns blank w l re) wr in
      let none' : first_at T₁.lists.now e ≡ 0 = sym (field_read (λ (r : ListRecord). r.first) T₁.lists.now e 0 blank (omega (arith, re.lists, w.sized.0))) ∙ none in
      let gone : length ns ≡ 0 = sym (ap length re.here) ∙ ap (λ ms. length (map (values_at T₁.nodes.now) ms)) (first_none (room T₁) (links_of T₁) sound e (omega (arith, re.nodes)) none') in
      rebooked T T₁ T₂ e k (old.count - 1) T₁.free_list ns w l re sound wr' cut_filled (omega (arith, it_count T T₁ e ns blank w l re, less)) free (T₂.held - 1)
      (omega (arith, wr.held, re.total, less, held_some)) (omega (arith, wr.held, re.total, w.within)) others
      (subst (Pool (room T) (next_list T₂.lists.now) (used T₂.lists.now)) (sym (is ∙ add-one e))
      (pool_more T T₁ T₂ e k (old.count - 1) T₁.free_list ns w l re sound wr' was_some gone re.free)) same linked

  -- an element is left
  pub shrunk : old.first ≢ 0 → Written T₁ T₂ e (key_in old.name) (old.count - 1) old.next
      → (same : length T₂.lists.now ≡ room T₂) (linked : Sound (room T₂) (links_of T₂))
      → Rebooked T (record { nodes = T₂.nodes; lists = T₂.lists; free_node = T₂.free_node; free_list = T₂.free_list; held = T₂.held - 1; same = same; linked = linked }) e (key_at T.lists.now e) (cut (nodes_of T e) i)
  shrunk some wr same linked =
      let ns = cut (nodes_of T e) i in
      let k = key_at T.lists.now e in
      let wr' = subst (λ q. Written T₁ T₂ e q (old.count - 1) old.next) (it_key T T₁ e ns blank w l re) wr in
      let some' : first_at T₁.lists.now e ≢ 0 = λ z. some (field_read (λ (r : ListRecord). r.first) T₁.lists.now e 0 blank (omega (arith, re.lists, w.sized.0)) ∙ z) in
      let left : 0 < length ns = omega (arith, used_here T₁ sound e (omega (arith, re.nodes)) some', ap length re.here) in
      rebooked T T₁ T₂ e k (old.count - 1) old.next ns w l re sound wr' cut_filled (omega (arith, it_count T T₁ e ns blank w l re, less)) T₂.free_list (T₂.held - 1)
      (omega (arith, wr.held, re.total, less, held_some)) (omega (arith, wr.held, re.total, w.within)) others
      (subst (Pool (room T) (next_list T₂.lists.now) (used T₂.lists.now)) (sym (wr.free ∙ re.free))
      (pool_kept T T₁ T₂ e k (old.count - 1) old.next ns w l re sound wr' was_some left (it_next T T₁ e ns blank w l re))) same linked

-- ---- a new list

module _ (T : Tables) (w : Whole T) (left : T.held < room T) where
  pub new_within : T.free_list - 1 < room T
  new_within = omega (arith, free_within (room T) (next_list T.lists.now) (used T.lists.now) T.free_list w.pooled (list_left T w left), list_left T w left)

  free_is : T.free_list ≡ suc (T.free_list - 1)
  free_is = omega (arith, list_left T w left)

  pub new_none : length (nodes_of T (T.free_list - 1)) ≡ 0
  new_none =
      let e = T.free_list - 1 in
      let u : used T.lists.now (suc e) ≡ 0 = ap (used T.lists.now) (sym free_is) ∙ free_unused (room T) (next_list T.lists.now) (used T.lists.now) T.free_list w.pooled (list_left T w left) in
      let z : first_at T.lists.now e ≡ 0 = ⊎_elim (λ q. q) (λ ne. absurd (omega (arith, u, used_is_one (first_at T.lists.now e) ne))) (cases_eq (first_at T.lists.now e) 0) in
      ap (λ ms. length (map (values_at T.nodes.now) ms)) (first_none (room T) (links_of T) w.linked e new_within z)

  new_nodes : (ns : Nodes) → length ns ≡ 0 → ns ≡ []
  new_nodes [] h = refl
  new_nodes (n ∷ ns) h = absurd (omega arith)

  pub new_pushed : (v : Value) → pushed takes Right (nodes_of T (T.free_list - 1)) v ≡ (v ∷ []) ∷ []
  new_pushed v = ap (λ ns. pushed takes Right ns v) (new_nodes (nodes_of T (T.free_list - 1)) new_none) ∙ pushed_none takes Right v

  pub created : (T₁ T₂ : Tables) (k : Key) (v : Value) → ((i : ℕ) → i < room T → 0 < length (nodes_of T i) → key_at T.lists.now i ≡ k → ⊥)
      → Relisted T T₁ (T.free_list - 1) (pushed takes Right (nodes_of T (T.free_list - 1)) v) → Sound (room T₁) (links_of T₁)
      → Written T₁ T₂ (T.free_list - 1) k 1 (get_or T₁.lists.now (T.free_list - 1) blank).next
      → (same : length T₂.lists.now ≡ room T₂) (linked : Sound (room T₂) (links_of T₂))
      → Rebooked T (record { nodes = T₂.nodes; lists = T₂.lists; free_node = T₂.free_node; free_list = (get_or T₁.lists.now (T.free_list - 1) blank).next; held = T₂.held + 1; same = same; linked = linked }) (T.free_list - 1) k ((v ∷ []) ∷ [])
  created T₁ T₂ k v absent re₀ sound wr same linked =
      let e = T.free_list - 1 in
      let ns : Nodes = (v ∷ []) ∷ [] in
      let re = subst (Relisted T T₁ e) (new_pushed v) re₀ in
      let next = (get_or T₁.lists.now e blank).next in
      let gone : length (flat (nodes_of T e)) ≡ 0 = ap (λ ms. length (flat ms)) (new_nodes (nodes_of T e) new_none) in
      rebooked T T₁ T₂ e k 1 next ns w new_within re sound wr (omega arith, tt) refl next (T₂.held + 1)
      (omega (arith, wr.held, re.total, gone)) (omega (arith, wr.held, re.total, left)) (λ i b ne h q. absent i b h q)
      (subst (Pool (room T) (next_list T₂.lists.now) (used T₂.lists.now)) (sym (it_next T T₁ e ns blank w new_within re))
      (pool_less T T₁ T₂ e k 1 next ns w new_within re sound wr free_is (omega arith))) same linked
