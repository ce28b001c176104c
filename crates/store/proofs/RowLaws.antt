-- How the lists that rows show change when a row is added, removed or replaced.
use Rattle.std.proofs.Common.{◌≡◌, ℕ, zero, suc, ◌<◌, ◌≤◌, Bool, true, false, cond, List, [], ◌∷◌, ◌++◌, length, get_or, sym, refl, ap, ◌∙◌, subst, true≢false, arith}
use Rattle.std.specs.Ordering.{is_eq}
use Rattle.std.specs.List.{AllByRecursion as All}
use Rattle.std.proofs.lemmas.List.{append-nil}
use Rattle.order.specs.Keys.{Key, key_order, longest_key}
use Rattle.store.specs.Limits.{longest_value, largest_store}
use Rattle.store.specs.Lists.{Value, StoreLaws, at, put, held, Canonical}
use Rattle.store.specs.Rows.{Row, Short, values_of, lists_of}
use Rattle.store.proofs.ListLaws.{at_put_same, at_put_other, canonical_put, held_put, order_same, order_apart, same_decides, put_from_at}

pub canonical_rows : (ps : List Row) → Canonical (lists_of ps)
unfolding lists_of Canonical
canonical_rows [] = tt
canonical_rows (p ∷ ps) = canonical_put (lists_of ps) p.0 (p.1 ∷ at (lists_of ps) p.0) (canonical_rows ps)

pub held_rows : (ps : List Row) → held (lists_of ps) ≡ length ps
unfolding lists_of held
held_rows [] = refl
held_rows (p ∷ ps) = omega (arith, held_put (lists_of ps) p.0 (p.1 ∷ at (lists_of ps) p.0) (canonical_rows ps), held_rows ps)

at_more : (k : Key) (p : Row) (ps : List Row) → at (lists_of ps) k ≡ values_of k ps → (b : Bool) → is_eq (key_order k p.0) ≡ b → at (lists_of (p ∷ ps)) k ≡ cond b (p.1 ∷ values_of k ps) (values_of k ps)
unfolding lists_of
at_more k p ps h true e =
    let q : k ≡ p.0 = (same_decides k p.0).0 e in
    ap (λ x. at (lists_of (p ∷ ps)) x) q ∙ at_put_same (lists_of ps) p.0 (p.1 ∷ at (lists_of ps) p.0) (canonical_rows ps) ∙ ap (λ x. p.1 ∷ x) (ap (λ x. at (lists_of ps) x) (sym q) ∙ h)
at_more k p ps h false e =
    at_put_other (lists_of ps) p.0 k (p.1 ∷ at (lists_of ps) p.0) (λ q. true≢false (sym (order_same k p.0 q) ∙ e)) ∙ h

pub at_rows : (k : Key) (ps : List Row) → at (lists_of ps) k ≡ values_of k ps
unfolding values_of at lists_of
at_rows k [] = refl
at_rows k (p ∷ ps) = at_more k p ps (at_rows k ps) (is_eq (key_order k p.0)) refl

-- ---- rows one after another

front : {X : Type 0} (b : Bool) (v : X) (xs ys : List X) → cond b (v ∷ (xs ++ ys)) (xs ++ ys) ≡ cond b (v ∷ xs) xs ++ ys
front true v xs ys = refl
front false v xs ys = refl

pub values_append : (k : Key) (xs ys : List Row) → values_of k (xs ++ ys) ≡ values_of k xs ++ values_of k ys
unfolding values_of
values_append k [] ys = refl
values_append k (p ∷ xs) ys = ap (λ r. cond (is_eq (key_order k p.0)) (p.1 ∷ r) r) (values_append k xs ys) ∙ front (is_eq (key_order k p.0)) p.1 (values_of k xs) (values_of k ys)

pub values_here : (k : Key) (v : Value) (ps : List Row) → values_of k ((k, v) ∷ ps) ≡ v ∷ values_of k ps
unfolding values_of
values_here k v ps = ap (λ b. cond b (v ∷ values_of k ps) (values_of k ps)) (order_same k k refl)

pub values_other : (k q : Key) (v : Value) (ps : List Row) → (q ≡ k → ⊥) → values_of q ((k, v) ∷ ps) ≡ values_of q ps
unfolding values_of
values_other k q v ps n = ap (λ b. cond b (v ∷ values_of q ps) (values_of q ps)) (order_apart q k n)

pub values_mid : (k : Key) (v : Value) (xs ys : List Row) → values_of k (xs ++ (k, v) ∷ ys) ≡ values_of k xs ++ v ∷ values_of k ys
values_mid k v xs ys = values_append k xs ((k, v) ∷ ys) ∙ ap (λ r. values_of k xs ++ r) (values_here k v ys)

-- rows that change the list of k alone
pub rows_put : (ps qs : List Row) (k : Key) (vs : List Value) → values_of k qs ≡ vs → ((q : Key) → (q ≡ k → ⊥) → values_of q qs ≡ values_of q ps) → lists_of qs ≡ put (lists_of ps) k vs
rows_put ps qs k vs h o = put_from_at (lists_of qs) (lists_of ps) k vs (canonical_rows qs) (canonical_rows ps) (at_rows k qs ∙ h) (λ q n. at_rows q qs ∙ o q n ∙ sym (at_rows q ps))

pub rows_left : (ps : List Row) (k : Key) (v : Value) → lists_of ((k, v) ∷ ps) ≡ put (lists_of ps) k (v ∷ at (lists_of ps) k)
unfolding lists_of
rows_left ps k v = refl

pub rows_right : (ps : List Row) (k : Key) (v : Value) → lists_of (ps ++ (k, v) ∷ []) ≡ put (lists_of ps) k (at (lists_of ps) k ++ v ∷ [])
unfolding values_of
rows_right ps k v = rows_put ps (ps ++ (k, v) ∷ []) k (at (lists_of ps) k ++ v ∷ [])
    (values_mid k v ps [] ∙ ap (λ r. r ++ v ∷ []) (sym (at_rows k ps)))
    (λ q n. values_append q ps ((k, v) ∷ []) ∙ ap (λ r. values_of q ps ++ r) (values_other k q v [] n) ∙ append-nil (values_of q ps))

pub rows_cut : (xs ys : List Row) (k : Key) (v : Value) → lists_of (xs ++ ys) ≡ put (lists_of (xs ++ (k, v) ∷ ys)) k (values_of k xs ++ values_of k ys)
rows_cut xs ys k v = rows_put (xs ++ (k, v) ∷ ys) (xs ++ ys) k (values_of k xs ++ values_of k ys)
    (values_append k xs ys)
    (λ q n. values_append q xs ys ∙ sym (values_append q xs ((k, v) ∷ ys) ∙ ap (λ r. values_of q xs ++ r) (values_other k q v ys n)))

-- ---- the laws, where the rows are short

pub long_key : (k : Key) (ps : List Row) → All Short ps → longest_key < length k → values_of k ps ≡ []
unfolding values_of
long_key k [] a h = refl
long_key k (p ∷ ps) a h = ap (λ b. cond b (p.1 ∷ values_of k ps) (values_of k ps)) (order_apart k p.0 (λ e. let n = ap length e in let s = a.0.0 in omega arith)) ∙ long_key k ps a.1 h

short_cond : (b : Bool) (v : Value) (vs : List Value) → length v ≤ longest_value → ((i : ℕ) → length (get_or vs i []) ≤ longest_value) → (i : ℕ) → length (get_or (cond b (v ∷ vs) vs) i []) ≤ longest_value
short_cond true v vs s h zero = s
short_cond true v vs s h (suc i) = h i
short_cond false v vs s h i = h i

pub short_values : (k : Key) (ps : List Row) → All Short ps → (i : ℕ) → length (get_or (values_of k ps) i []) ≤ longest_value
unfolding values_of
short_values k [] a i = omega arith
short_values k (p ∷ ps) a i = short_cond (is_eq (key_order k p.0)) p.1 (values_of k ps) a.0.1 (short_values k ps a.1) i

pub rows_laws : (cap : ℕ) (ps : List Row) → 1 ≤ cap → cap ≤ largest_store → length ps ≤ cap → All Short ps → StoreLaws cap (lists_of ps)
rows_laws cap ps one few fits short = record {
  some = one;
  few = few;
  fits = omega (arith, held_rows ps);
  canonical = canonical_rows ps;
  keys = λ k h. at_rows k ps ∙ long_key k ps short h;
  values = λ k i. subst (λ (vs : List Value). length (get_or vs i []) ≤ longest_value) (sym (at_rows k ps)) (short_values k ps short i);
}
