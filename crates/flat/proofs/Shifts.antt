-- What moving records by a place leaves.
use Rattle.std.proofs.Common.{◌≡◌, ℕ, suc, ◌+◌, ◌-◌, ◌<◌, ◌≤◌, List, ◌∷◌, ◌++◌, map, length, get_or, take, drop, set, sym, ap, ◌∙◌, ⊎_elim, arith}
use Rattle.std.specs.List.{remove, insert, SameBelow, CopiedTo}
use Rattle.std.proofs.lemmas.List.{length-set, length-take-le, get_or-take, get_or-set_other, get_or-set_same, same_lists, map-append, take-map, drop-map}
use Rattle.std.proofs.lemmas.List.Edits.{length-insert, get_or-insert_at, get_or-insert_below, get_or-insert_above, length-remove, get_or-remove_above, get_or-remove_below}
use Rattle.std.proofs.lemmas.Bool.{cases_order}

module _ {X : Type 0} where
  -- an element that is written, and what stands elsewhere
  here : (cur : List X) (i k : ℕ) (r d : X) → k ≡ i → i < length cur → get_or (set cur i r) k d ≡ r
  here cur i k r d e l = ap (λ j. get_or (set cur i r) j d) e ∙ get_or-set_same cur i r d l

module _ {X : Type 0} (xs : List X) where
  -- what stood from a place on, up to n, has moved one place up, and an item is written there
  pub opened : (cur : List X) (at n : ℕ) (it : X) → n < length xs → at ≤ n → length cur ≡ length xs → SameBelow xs cur (at + 1) → CopiedTo xs cur at (at + 1) (n - at) → take (n + 1) (set cur at it) ≡ insert (take n xs) at it
  opened cur at n it l b long front back =
      let t = length-take-le n xs (omega arith) in
      let w : at < length cur = omega (arith, long) in
      let m : length (take (n + 1) (set cur at it)) ≡ n + 1 = length-take-le (n + 1) (set cur at it) (omega (arith, length-set cur at it, long)) in
      same_lists (take (n + 1) (set cur at it)) (insert (take n xs) at it) (omega (arith, m, length-insert (take n xs) at it (omega arith)))
      (λ k d h. get_or-take (n + 1) (set cur at it) k d (omega arith) ∙ ⊎_elim
      (λ e. here cur at k it d e w ∙ sym (ap (λ j. get_or (insert (take n xs) at it) j d) e ∙ get_or-insert_at (take n xs) at it d (omega arith)))
      (⊎_elim
      (λ e. get_or-set_other cur at k it d (omega arith) ∙ front k d (omega arith) ∙ sym (get_or-insert_below (take n xs) at it d k e (omega arith) ∙ get_or-take n xs k d (omega arith)))
      (λ e. let q : k ≡ (k - 1) + 1 = omega arith in
      let r : at + (k - (at + 1)) ≡ k - 1 = omega arith in
      get_or-set_other cur at k it d (omega arith) ∙ back k d (omega arith) (omega arith) ∙ ap (λ j. get_or xs j d) r
      ∙ sym (ap (λ j. get_or (insert (take n xs) at it) j d) q ∙ get_or-insert_above (take n xs) at it d (k - 1) (omega arith) (omega arith) ∙ get_or-take n xs (k - 1) d (omega arith))))
      (cases_order k at))

  -- what stood behind a place, up to n, has moved one place down
  pub closed : (cur : List X) (at n : ℕ) → n ≤ length xs → at < n → length cur ≡ length xs → SameBelow xs cur at → CopiedTo xs cur (at + 1) at (n - (at + 1)) → take (n - 1) cur ≡ remove (take n xs) at
  closed cur at n l b long front back =
      let t = length-take-le n xs l in
      let s = length-remove (take n xs) at (omega arith) in
      let m : length (take (n - 1) cur) ≡ n - 1 = length-take-le (n - 1) cur (omega arith) in
      same_lists (take (n - 1) cur) (remove (take n xs) at) (omega arith)
      (λ k d h. get_or-take (n - 1) cur k d (omega arith) ∙ ⊎_elim
      (λ e. stayed k d (omega arith) (omega arith))
      (⊎_elim (λ e. front k d e ∙ sym (get_or-remove_below (take n xs) at d k e (omega arith) ∙ get_or-take n xs k d (omega arith))) (λ e. stayed k d (omega arith) (omega arith)))
      (cases_order k at))
    where
      stayed : (k : ℕ) (d : X) → at ≤ k → k < n - 1 → get_or cur k d ≡ get_or (remove (take n xs) at) k d
      stayed k d low high =
          let t = length-take-le n xs l in
          let q : (at + 1) + (k - at) ≡ k + 1 = omega arith in
          back k d low (omega arith) ∙ ap (λ j. get_or xs j d) q ∙ sym (get_or-remove_above (take n xs) at d k low (omega arith) ∙ get_or-take n xs (k + 1) d (omega arith))

module _ {X Y : Type 0} (f : X → Y) (xs : List X) (i : ℕ) where
  pub map_inserted : (x : X) → map f (insert xs i x) ≡ insert (map f xs) i (f x)
  map_inserted x = map-append f (take i xs) (x ∷ drop i xs) ∙ (λ j. sym (take-map f i xs) j ++ f x ∷ sym (drop-map f i xs) j)

  pub map_removed : map f (remove xs i) ≡ remove (map f xs) i
  map_removed = map-append f (take i xs) (drop (suc i) xs) ∙ (λ j. sym (take-map f i xs) j ++ sym (drop-map f (suc i) xs) j)
