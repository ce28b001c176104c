-- The values of one node are changed: what that makes of the node, and of the list that it is in.
use Rattle.std.proofs.Common.{◌≡◌, ℕ, ◌+◌, ◌<◌, ◌≤◌, Bool, true, false, cond, ◌↔◌, ◌≢◌, Ok, Err, Result, is_ok, IsOk, IsTrue, OnOk, OnErr, List, [], ◌∷◌, ◌++◌, map, length, take, drop, sym, refl, ap, ◌∙◌, subst, append_assoc, arith}
use Rattle.std.specs.List.{insert}
use Rattle.std.proofs.lemmas.List.{take_all, drop_all, map-append}
use Rattle.store.specs.Lists.{Value}
use Rattle.listpack.specs.declared.pack.Listpack.{Listpack}
use Rattle.listpack.specs.declared.pack.PackError.{PackError}
use Rattle.listpack.specs.Packs.{values_in, takes}
use Rattle.quicklist.specs.declared.table.Node.{Node}
use Rattle.nodes.specs.Nodes.{Nodes, put_in, unless_empty}
use Rattle.links.specs.Links.{tally, last_or, listed, Sound}
use Rattle.links.proofs.Paths.{one_same, tally_append, last_push, map_frame}
use Rattle.links.proofs.Tables.{once, within, apart}
use Rattle.records.specs.Records.{key_at, first_at}
use Rattle.quicklist.specs.declared.table.Tables.{Tables}
use Rattle.quicklist.specs.Tables.{values_at, count_at, next_list, room, links, links_of, numbers, nodes_of, Refilled, Relisted}
use Rattle.quicklist.proofs.Writes.{repacked, repacked_long, repacked_refills}
use Rattle.quicklist.proofs.Splices.{holds}

-- ---- what a node tells

-- where there is an index and the value is short, a change is made exactly where there is room
pub told_ok : {U P Q : Type 0} (r : Result U PackError) (b t : Bool) → b ≡ is_ok r → (IsOk r ↔ (P × Q × IsTrue t)) → P → Q → b ≡ t
told_ok r true t e made p q = sym (made.0 (sym e)).2
told_ok r false true e made p q = e ∙ made.1 (p, q, refl)
told_ok r false false e made p q = refl

pub short_ok : {U Q : Type 0} (r : Result U PackError) (b t : Bool) → b ≡ is_ok r → (IsOk r ↔ (Q × IsTrue t)) → Q → b ≡ t
short_ok r true t e made q = sym (made.0 (sym e)).1
short_ok r false true e made q = e ∙ made.1 (q, refl)
short_ok r false false e made q = refl

-- what a change that was made, or refused, has left
pub left_ok : {U P : Type 0} (r : Result U PackError) → true ≡ is_ok r → OnOk r P → P
left_ok (Ok _) e ok = ok
left_ok (Err _) e ok = cc

pub left_err : {U P : Type 0} (r : Result U PackError) → false ≡ is_ok r → OnErr r P → P
left_err (Ok _) e err = cc
left_err (Err _) e err = err

pub left_either : {U : Type 0} (r : Result U PackError) (xs us vs : List Value) → OnOk r (xs ≡ us) → OnErr r (xs ≡ vs) → xs ≡ cond (is_ok r) us vs
left_either (Ok _) xs us vs ok err = ok
left_either (Err _) xs us vs ok err = err

-- ---- one node after a change

-- a value at the end of a list
pub inserted_end : (vs : List Value) (v : Value) (j : ℕ) → j ≡ length vs → insert vs j v ≡ vs ++ v ∷ []
inserted_end vs v j e = λ k. take_all j vs (omega arith) k ++ v ∷ drop_all j vs (omega arith) k

-- ---- the lists after a change to one node

module _ (T : Tables) (e n : ℕ) (ys : List Node) (vs : List Value) (sound : Sound (room T) (links_of T)) (l : e < room T) (there : 0 < tally n (numbers T e))
    (re : Refilled T.nodes.now ys n vs) (len : length ys ≡ room T) where
  pub refill_links : links ys T.lists.now T.free_node ≡ links_of T
  refill_links = λ k. record { next = re.nexts k; prev = re.prevs k; first = first_at T.lists.now; last = (links_of T).last; free = T.free_node }

  pub refill_sound : Sound (length ys) (links ys T.lists.now T.free_node)
  refill_sound = subst (λ k. Sound k (links ys T.lists.now T.free_node)) (sym len) (subst (Sound (room T)) (sym refill_links) sound)

  pub refill_numbers : (i : ℕ) → listed (length ys) (links ys T.lists.now T.free_node) i ≡ numbers T i
  refill_numbers i = λ k. listed (len k) (refill_links k) i

  module _ (ls rs : List ℕ) (is : numbers T e ≡ ls ++ n ∷ rs) where
    same_on : (ms : List ℕ) → ((m : ℕ) → tally m ms ≤ tally m ls + tally m rs) → map (values_at ys) ms ≡ map (values_at T.nodes.now) ms
    same_on ms h = map_frame (values_at T.nodes.now) (values_at ys) ms (λ m i.
        let a = ap (tally m) is in let b = tally_append m ls (n ∷ rs) in
        re.else m (within (room T) (links_of T) sound e m l (omega (arith, h m))).0
        (λ z. let c : tally m ms ≡ tally n ms = ap (λ k. tally k ms) z in
        omega (arith, h n, once (room T) (links_of T) sound e n l, ap (tally n) is, tally_append n ls (n ∷ rs), one_same n)))

    pub same_left : map (values_at ys) ls ≡ map (values_at T.nodes.now) ls
    same_left = same_on ls (λ m. omega arith)

    pub same_right : map (values_at ys) rs ≡ map (values_at T.nodes.now) rs
    same_right = same_on rs (λ m. omega arith)

    refill_here : holds ys (links ys T.lists.now T.free_node) e ≡ map (values_at T.nodes.now) ls ++ vs ∷ map (values_at T.nodes.now) rs
    refill_here = ap (map (values_at ys)) (refill_numbers e ∙ is) ∙ map-append (values_at ys) ls (n ∷ rs)
        ∙ (let a = same_left in let b = same_right in let c = re.here in cc)

  refill_else : (i : ℕ) → i < room T → i ≢ e → holds ys (links ys T.lists.now T.free_node) i ≡ nodes_of T i
  refill_else i k ne = ap (map (values_at ys)) (refill_numbers i)
      ∙ map_frame (values_at T.nodes.now) (values_at ys) (numbers T i) (λ m h.
      let a = apart (room T) (links_of T) sound e i m l k ne h in
      re.else m a.1 (λ z. let c : tally m (numbers T e) ≡ tally n (numbers T e) = ap (λ q. tally q (numbers T e)) z in omega (arith, a.0)))

  -- the tables with these nodes
  module _ (T' : Tables) (ys-is : T'.nodes.now ≡ ys) (lists : T'.lists.now ≡ T.lists.now) (node : T'.free_node ≡ T.free_node) (list : T'.free_list ≡ T.free_list) (held : T'.held ≡ T.held) where
    as_links : (i : ℕ) → nodes_of T' i ≡ holds ys (links ys T.lists.now T.free_node) i
    as_links i = λ k. holds (ys-is k) (links (ys-is k) (lists k) (node k)) i

    pub refill_relisted : (ls rs : List ℕ) → numbers T e ≡ ls ++ n ∷ rs → Relisted T T' e (map (values_at T.nodes.now) ls ++ vs ∷ map (values_at T.nodes.now) rs)
    refill_relisted ls rs is = record {
      here = as_links e ∙ refill_here ls rs is;
      else = λ i k ne. as_links i ∙ refill_else i k ne;
      keys = λ i. ap (λ hs. key_at hs i) lists;
      firsts = λ i ne. ap (λ hs. first_at hs i) lists;
      counts = λ i. ap (λ hs. count_at hs i) lists;
      nexts = λ m. ap (λ hs. next_list hs m) lists;
      free = list;
      total = held;
      nodes = ap length ys-is ∙ len;
      lists = ap length lists;
    }

    -- and what is done to the same list after it
    pub refill_then : (U : Tables) (ns : Nodes) → Relisted T' U e ns → Relisted T U e ns
    refill_then U ns r = record {
      here = r.here;
      else = λ i k ne. r.else i (omega (arith, ap length ys-is, len)) ne ∙ as_links i ∙ refill_else i k ne;
      keys = λ i. r.keys i ∙ ap (λ hs. key_at hs i) lists;
      firsts = λ i ne. r.firsts i ne ∙ ap (λ hs. first_at hs i) lists;
      counts = λ i. r.counts i ∙ ap (λ hs. count_at hs i) lists;
      nexts = λ m. r.nexts m ∙ ap (λ hs. next_list hs m) lists;
      free = r.free ∙ list;
      total = r.total ∙ held;
      nodes = r.nodes ∙ ap length ys-is ∙ len;
      lists = r.lists ∙ ap length lists;
    }

-- the tables after one node's listpack was written over
module _ (T : Tables) (e n : ℕ) (l : e < room T) (there : 0 < tally n (numbers T e)) (d : Node) (p : Listpack) where
  pub repack_same : length T.lists.now ≡ length (repacked T.nodes.now n d p)
  repack_same = T.same ∙ sym (repacked_long T.nodes.now n d p)

  pub repack_linked : Sound (length (repacked T.nodes.now n d p)) (links (repacked T.nodes.now n d p) T.lists.now T.free_node)
  repack_linked =
      let w = within (room T) (links_of T) T.linked e n l (omega (arith, there)) in
      refill_sound T e n _ _ T.linked l there (repacked_refills T.nodes.now n d p (values_in p) w.0 w.1 refl) (repacked_long T.nodes.now n d p)

-- ---- a value more in a node

pair : {X : Type 0} (b : Bool) (p q r s : X) → cond b p q ∷ cond b r s ∷ [] ≡ cond b (p ∷ r ∷ []) (q ∷ s ∷ [])
pair true p q r s = refl
pair false p q r s = refl

-- where the node takes it
pub put_taken : (us : List Value) (j : ℕ) (v : Value) → true ≡ takes us v → insert us j v ∷ [] ≡ put_in takes us j v
put_taken us j v t = λ k. cond (t k) (insert us j v ∷ []) (cond (takes (take j us) v) ((take j us ++ v ∷ []) ∷ drop j us ∷ []) (take j us ∷ (v ∷ drop j us) ∷ []))

-- where it does not
put_divided : (us : List Value) (j : ℕ) (v : Value) → false ≡ takes us v
    → cond (takes (take j us) v) (take j us ++ v ∷ []) (take j us) ∷ cond (takes (take j us) v) (drop j us) (v ∷ drop j us) ∷ [] ≡ put_in takes us j v
put_divided us j v t = pair (takes (take j us) v) _ _ _ _
    ∙ (λ k. cond (t k) (insert us j v ∷ []) (cond (takes (take j us) v) ((take j us ++ v ∷ []) ∷ drop j us ∷ []) (take j us ∷ (v ∷ drop j us) ∷ [])))

-- the list after the part cut off has gone into a node of its own
module _ (T : Tables) (e n : ℕ) (zs : List Node) (sound : Sound (room T) (links_of T)) (l : e < room T) (there : 0 < tally n (numbers T e)) (j : ℕ) (v : Value) (right : Listpack)
    (left : Refilled T.nodes.now zs n (cond (takes (take j (values_at T.nodes.now n)) v) (take j (values_at T.nodes.now n) ++ v ∷ []) (take j (values_at T.nodes.now n))))
    (rest : values_in right ≡ cond (takes (take j (values_at T.nodes.now n)) v) (drop j (values_at T.nodes.now n)) (v ∷ drop j (values_at T.nodes.now n)))
    (full : false ≡ takes (values_at T.nodes.now n) v) (len : length zs ≡ room T) (ls rs : List ℕ) (is : numbers T e ≡ ls ++ n ∷ rs) where
  pub put_numbers : listed (length zs) (links zs T.lists.now T.free_node) e ≡ (ls ++ n ∷ []) ++ rs
  put_numbers = refill_numbers T e n zs _ sound l there left len e ∙ is ∙ sym (append_assoc ls (n ∷ []) rs)

  pub put_last : n ≡ last_or 0 (ls ++ n ∷ [])
  put_last = sym (last_push 0 ls n)

  pub put_nodes : map (values_at zs) (ls ++ n ∷ []) ++ values_in right ∷ map (values_at zs) rs
      ≡ map (values_at T.nodes.now) ls ++ (put_in takes (values_at T.nodes.now n) j v ++ map (values_at T.nodes.now) rs)
  put_nodes =
      let us = values_at T.nodes.now n in
      let a = same_left T e n zs _ sound l there left len ls rs is in
      let b = same_right T e n zs _ sound l there left len ls rs is in
      ap (λ ms. ms ++ values_in right ∷ map (values_at zs) rs) (map-append (values_at zs) ls (n ∷ []))
      ∙ append_assoc (map (values_at zs) ls) (values_at zs n ∷ []) (values_in right ∷ map (values_at zs) rs)
      ∙ (λ k. a k ++ left.here k ∷ rest k ∷ b k)
      ∙ ap (λ ms. map (values_at T.nodes.now) ls ++ (ms ++ map (values_at T.nodes.now) rs)) (put_divided us j v full)

-- ---- a node after a value has gone

pub node_kept : (us : List Value) (fs bs : Nodes) → (length us ≡ 0 → ⊥) → fs ++ us ∷ bs ≡ fs ++ (unless_empty us ++ bs)
node_kept [] fs bs h = absurd (h refl)
node_kept (u ∷ us) fs bs h = refl

pub node_gone : (us : List Value) (fs bs fs' bs' : Nodes) → length us ≡ 0 → fs' ≡ fs → bs' ≡ bs → fs' ++ bs' ≡ fs ++ (unless_empty us ++ bs)
node_gone [] fs bs fs' bs' h a b = λ k. a k ++ b k
node_gone (u ∷ us) fs bs fs' bs' h a b = absurd (omega arith)
