-- Where the row of a key's element stands, and what a change of the rows there does to the lists.
use Rattle.std.proofs.Common.{◌≡◌, ℕ, zero, suc, ◌<◌, ◌≤◌, Bool, true, false, cond, List, [], ◌∷◌, ◌++◌, length, get_or, take, drop, set, sym, refl, ap, ◌∙◌, ⊎_elim, add-one, arith}
use Rattle.std.specs.Ordering.{is_eq}
use Rattle.std.specs.List.{insert, remove}
use Rattle.std.proofs.lemmas.List.{append_assoc, length-append, take_at, drop_at, take-append-drop, drop_more, set_split, set_at}
use Rattle.std.proofs.lemmas.Bool.{cases_order}
use Rattle.order.specs.Keys.{Key, key_order}
use Rattle.store.specs.Lists.{Value, at, put}
use Rattle.store.specs.Rows.{Row, values_of, lists_of, spot, onward}
use Rattle.store.proofs.ListLaws.{same_decides}
use Rattle.store.proofs.RowLaws.{at_rows, values_append, values_mid, values_other, rows_put, rows_cut}

-- ---- where it stands

pub spot_before : (k : Key) (i : ℕ) (ps : List Row) → i ≤ length (values_of k ps) → length (values_of k (take (spot k i ps) ps)) ≡ i
unfolding values_of spot
spot_before k i [] l = omega arith
spot_before k i (p ∷ ps) l = go (λ j. spot_before k j ps) (is_eq (key_order k p.0)) refl i l
  where
    go : ((j : ℕ) → j ≤ length (values_of k ps) → length (values_of k (take (spot k j ps) ps)) ≡ j) → (b : Bool) → is_eq (key_order k p.0) ≡ b → (j : ℕ) → j ≤ length (cond b (p.1 ∷ values_of k ps) (values_of k ps)) → length (values_of k (take (cond b (onward j (λ m. spot k m ps)) (suc (spot k j ps))) (p ∷ ps))) ≡ j
    go ih true e zero h = refl
    go ih true e (suc j) h =
        let xs = values_of k (take (spot k j ps) ps) in
        ap (λ t. length (cond t (p.1 ∷ xs) xs)) e ∙ ap suc (ih j (omega arith))
    go ih false e j h =
        let xs = values_of k (take (spot k j ps) ps) in
        ap (λ t. length (cond t (p.1 ∷ xs) xs)) e ∙ ih j h

pub spot_row : (k : Key) (i : ℕ) (ps : List Row) → i < length (values_of k ps) → (d : Row) → (spot k i ps < length ps) × (get_or ps (spot k i ps) d ≡ (k, get_or (values_of k ps) i []))
unfolding values_of spot
spot_row k i [] l d = absurd (omega arith)
spot_row k i (p ∷ ps) l d = go (λ j h. spot_row k j ps h d) (is_eq (key_order k p.0)) refl i l
  where
    go : ((j : ℕ) → j < length (values_of k ps) → (spot k j ps < length ps) × (get_or ps (spot k j ps) d ≡ (k, get_or (values_of k ps) j []))) → (b : Bool) → is_eq (key_order k p.0) ≡ b → (j : ℕ) → j < length (cond b (p.1 ∷ values_of k ps) (values_of k ps)) → (cond b (onward j (λ m. spot k m ps)) (suc (spot k j ps)) < length (p ∷ ps)) × (get_or (p ∷ ps) (cond b (onward j (λ m. spot k m ps)) (suc (spot k j ps))) d ≡ (k, get_or (cond b (p.1 ∷ values_of k ps) (values_of k ps)) j []))
    go ih true e zero h = (omega arith, λ x. (sym ((same_decides k p.0).0 e) x, p.1))
    go ih true e (suc j) h = let r = ih j (omega arith) in (omega (arith, r.0), r.1)
    go ih false e j h = let r = ih j h in (omega (arith, r.0), r.1)

-- past the key's rows
pub spot_past : (k : Key) (i : ℕ) (ps : List Row) → length (values_of k ps) ≤ i → spot k i ps ≡ length ps
unfolding values_of spot
spot_past k i [] l = refl
spot_past k i (p ∷ ps) l = go (λ j. spot_past k j ps) (is_eq (key_order k p.0)) i l
  where
    go : ((j : ℕ) → length (values_of k ps) ≤ j → spot k j ps ≡ length ps) → (b : Bool) → (j : ℕ) → length (cond b (p.1 ∷ values_of k ps) (values_of k ps)) ≤ j → cond b (onward j (λ m. spot k m ps)) (suc (spot k j ps)) ≡ suc (length ps)
    go ih true zero h = absurd (omega arith)
    go ih true (suc j) h = ap suc (ih j (omega arith))
    go ih false j h = ap suc (ih j h)

-- a spot within the rows
pub spot_some : (k : Key) (i : ℕ) (ps : List Row) → spot k i ps < length ps → i < length (values_of k ps)
spot_some k i ps h = ⊎_elim (λ e. absurd (omega (arith, spot_past k i ps (omega arith)))) (⊎_elim (λ e. e) (λ e. absurd (omega (arith, spot_past k i ps (omega arith))))) (cases_order i (length (values_of k ps)))

pub spot_few : (k : Key) (i : ℕ) (ps : List Row) → spot k i ps ≤ length ps
unfolding spot
spot_few k i [] = omega arith
spot_few k i (p ∷ ps) = go (λ j. spot_few k j ps) (is_eq (key_order k p.0)) i
  where
    go : ((j : ℕ) → spot k j ps ≤ length ps) → (b : Bool) → (j : ℕ) → cond b (onward j (λ m. spot k m ps)) (suc (spot k j ps)) ≤ suc (length ps)
    go ih true zero = omega arith
    go ih true (suc j) = omega (arith, ih j)
    go ih false j = omega (arith, ih j)

-- ---- lists about an element

cut_at : (xs ys : List Value) (v : Value) (i : ℕ) → length xs ≡ i → remove (xs ++ v ∷ ys) i ≡ xs ++ ys
cut_at xs ys v i e = λ j. take_at xs (v ∷ ys) i e j ++ past j
  where
    past : drop (suc i) (xs ++ v ∷ ys) ≡ ys
    past = ap (drop (suc i)) (sym (append_assoc xs (v ∷ []) ys)) ∙ drop_at (xs ++ v ∷ []) ys (suc i) (omega (arith, length-append xs (v ∷ []), e))

add_at : (xs ys : List Value) (v : Value) (i : ℕ) → length xs ≡ i → insert (xs ++ ys) i v ≡ xs ++ v ∷ ys
add_at xs ys v i e = λ j. take_at xs ys i e j ++ v ∷ drop_at xs ys i e j

-- ---- the rows about a spot

module _ (k : Key) (i : ℕ) (ps : List Row) where
  about : i < length (values_of k ps) → ps ≡ take (spot k i ps) ps ++ (k, get_or (values_of k ps) i []) ∷ drop (suc (spot k i ps)) ps
  about l =
      let r = spot_row k i ps l (k, []) in
      sym (take-append-drop (spot k i ps) ps) ∙ ap (λ t. take (spot k i ps) ps ++ t) (drop_more ps (spot k i ps) (k, []) r.0 ∙ (λ j. r.1 j ∷ drop (add-one (spot k i ps) j) ps))

  around : i < length (values_of k ps) → at (lists_of ps) k ≡ values_of k (take (spot k i ps) ps) ++ get_or (values_of k ps) i [] ∷ values_of k (drop (suc (spot k i ps)) ps)
  around l = at_rows k ps ∙ ap (values_of k) (about l) ∙ values_mid k (get_or (values_of k ps) i []) (take (spot k i ps) ps) (drop (suc (spot k i ps)) ps)

  pub rows_removed : i < length (values_of k ps) → lists_of (remove ps (spot k i ps)) ≡ put (lists_of ps) k (remove (at (lists_of ps) k) i)
  rows_removed l =
      let xs = take (spot k i ps) ps in
      let ys = drop (suc (spot k i ps)) ps in
      let v = get_or (values_of k ps) i [] in
      rows_cut xs ys k v ∙ (λ j. put (lists_of (sym (about l) j)) k (sym (ap (λ t. remove t i) (around l) ∙ cut_at (values_of k xs) (values_of k ys) v i (spot_before k i ps (omega arith))) j))

  pub rows_set : (v : Value) → i < length (values_of k ps) → lists_of (set ps (spot k i ps) (k, v)) ≡ put (lists_of ps) k (set (at (lists_of ps) k) i v)
  rows_set v l =
      let xs = take (spot k i ps) ps in
      let ys = drop (suc (spot k i ps)) ps in
      let u = get_or (values_of k ps) i [] in
      let f : set ps (spot k i ps) (k, v) ≡ xs ++ (k, v) ∷ ys = set_split ps (spot k i ps) (k, v) (spot_row k i ps l (k, [])).0 in
      rows_put ps (set ps (spot k i ps) (k, v)) k (set (at (lists_of ps) k) i v)
      (ap (values_of k) f ∙ values_mid k v xs ys ∙ sym (ap (λ t. set t i v) (around l) ∙ set_at (values_of k xs) u (values_of k ys) v i (spot_before k i ps (omega arith))))
      (λ q o. ap (values_of q) f ∙ values_append q xs ((k, v) ∷ ys) ∙ ap (λ t. values_of q xs ++ t) (values_other k q v ys o ∙ sym (values_other k q u ys o)) ∙ sym (ap (values_of q) (about l) ∙ values_append q xs ((k, u) ∷ ys)))

  pub rows_inserted : (v : Value) → i ≤ length (values_of k ps) → lists_of (insert ps (spot k i ps) (k, v)) ≡ put (lists_of ps) k (insert (at (lists_of ps) k) i v)
  rows_inserted v l =
      let xs = take (spot k i ps) ps in
      let ys = drop (spot k i ps) ps in
      let g : ps ≡ xs ++ ys = sym (take-append-drop (spot k i ps) ps) in
      let h : at (lists_of ps) k ≡ values_of k xs ++ values_of k ys = at_rows k ps ∙ ap (values_of k) g ∙ values_append k xs ys in
      rows_put ps (insert ps (spot k i ps) (k, v)) k (insert (at (lists_of ps) k) i v)
      (values_mid k v xs ys ∙ sym (ap (λ t. insert t i v) h ∙ add_at (values_of k xs) (values_of k ys) v i (spot_before k i ps l)))
      (λ q o. values_append q xs ((k, v) ∷ ys) ∙ ap (λ t. values_of q xs ++ t) (values_other k q v ys o) ∙ sym (ap (values_of q) g ∙ values_append q xs ys))
