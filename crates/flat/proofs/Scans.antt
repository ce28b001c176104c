-- What a loop over the records knows of the rows before and after it.
use Rattle.std.proofs.Common.{◌≡◌, ℕ, zero, suc, ◌+◌, ◌-◌, ◌<◌, ◌≤◌, Bool, true, false, cond, List, [], ◌∷◌, length, get_or, drop, IsTrue, ◌↔◌, sym, refl, ap, ◌∙◌, arith}
use Rattle.std.specs.List.{filter}
use Rattle.std.specs.Ordering.{is_eq}
use Rattle.std.proofs.lemmas.List.{drop_more, drop_all}
use Rattle.std.proofs.lemmas.Bool.Decides.{same_from_decides}
use Rattle.order.specs.Keys.{Key, key_order}
use Rattle.store.specs.Rows.{values_of, spot, onward}
use Rattle.store.proofs.ListLaws.{same_decides}
use Rattle.flat.specs.declared.table.Record.{Record}
use Rattle.flat.specs.Records.{key_of, value_of, rows}
use Rattle.flat.proofs.Ranks.{blank}

module _ (k : Key) (rs : List Record) (i : ℕ) (b : Bool) (l : i < length rs) (h : IsTrue b ↔ (key_of (get_or rs i blank) ≡ k)) where
  r : Record
  r = get_or rs i blank

  next : drop i rs ≡ r ∷ drop (i + 1) rs
  unfolding r
  next = drop_more rs i blank l

  tested : is_eq (key_order k (key_of r)) ≡ b
  unfolding r
  tested = same_from_decides (is_eq (key_order k (key_of r))) b (same_decides k (key_of r)) ((λ t. sym (h.0 t)), λ e. h.1 (sym e))

  spot_next : (j : ℕ) → spot k j (rows (drop i rs)) ≡ cond b (onward j (λ m. spot k m (rows (drop (i + 1) rs)))) (suc (spot k j (rows (drop (i + 1) rs))))
  unfolding spot
  spot_next j = ap (λ t. spot k j (rows t)) next ∙ ap (λ t. cond t (onward j (λ m. spot k m (rows (drop (i + 1) rs)))) (suc (spot k j (rows (drop (i + 1) rs))))) tested

  pub spot_here : b ≡ true → spot k 0 (rows (drop i rs)) ≡ 0
  spot_here t = spot_next 0 ∙ ap (λ x. cond x zero (suc (spot k 0 (rows (drop (i + 1) rs))))) t

  pub spot_later : (j : ℕ) → b ≡ true → 0 < j → spot k j (rows (drop i rs)) ≡ 1 + spot k (j - 1) (rows (drop (i + 1) rs))
  spot_later zero t p = absurd (omega arith)
  spot_later (suc j) t p =
      let q : suc j - 1 ≡ j = omega arith in
      spot_next (suc j) ∙ ap (λ x. cond x (suc (spot k j (rows (drop (i + 1) rs)))) (suc (spot k (suc j) (rows (drop (i + 1) rs))))) t ∙ ap (λ m. suc (spot k m (rows (drop (i + 1) rs)))) (sym q) ∙ omega arith

  pub spot_pass : (j : ℕ) → b ≡ false → spot k j (rows (drop i rs)) ≡ 1 + spot k j (rows (drop (i + 1) rs))
  spot_pass j t = spot_next j ∙ ap (λ x. cond x (onward j (λ m. spot k m (rows (drop (i + 1) rs)))) (suc (spot k j (rows (drop (i + 1) rs))))) t ∙ omega arith

-- whether a record is one of a key
abbrev pub is_of : Key → Record → Bool
is_of k r = is_eq (key_order k (key_of r))

pub told_of : (k : Key) (r : Record) (b : Bool) → IsTrue b ↔ (key_of r ≡ k) → b ≡ is_of k r
told_of k r b h = sym (same_from_decides (is_of k r) b (same_decides k (key_of r)) ((λ t. sym (h.0 t)), λ e. h.1 (sym e)))

-- the records of a key are as many as the values
pub of_key : (k : Key) (rs : List Record) → length (filter (is_of k) rs) ≡ length (values_of k (rows rs))
unfolding values_of
of_key k [] = refl
of_key k (it ∷ rs) = go (is_of k it) (of_key k rs)
  where
    go : (b : Bool) → length (filter (is_of k) rs) ≡ length (values_of k (rows rs)) → length (cond b (it ∷ filter (is_of k) rs) (filter (is_of k) rs)) ≡ length (cond b (value_of it ∷ values_of k (rows rs)) (values_of k (rows rs)))
    go true h = omega arith
    go false h = h

pub spot_end : (k : Key) (j : ℕ) (rs : List Record) (i : ℕ) → length rs ≤ i → spot k j (rows (drop i rs)) ≡ 0
unfolding spot
spot_end k j rs i l = ap (λ t. spot k j (rows t)) (drop_all i rs l)
