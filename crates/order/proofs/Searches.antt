-- A loop that looks for the least value, and what it knows after each turn.
use Rattle.std.proofs.Common.{◌≡◌, ℕ, ◌+◌, ◌<◌, ◌≤◌, List, [], ◌∷◌, length, get_or, IfSome, Some, None, Option, Ordering, Less, Equal, Greater, sym, refl, ap, ◌∙◌, subst, ⊎_elim, true≢false, arith, MatchOption}
use Rattle.std.specs.Option.{option_map}
use Rattle.std.specs.Ordering.{is_lt, ordering_reverse}
use Rattle.std.proofs.lemmas.Bool.{cases_eq}
use Rattle.std.proofs.lemmas.List.{get_or_default}
use Rattle.order.specs.Orders.{Lawful, Minimal, FirstLeast, Beats}

module _ {V : Type 0} (order : V → V → Ordering) (lawful : Lawful order) where
  pub not_itself : (a : V) → order a a ≡ Less → ⊥
  not_itself a h = true≢false (ap is_lt (sym h ∙ lawful.itself a))

  -- what comes before b comes before each that does not come before b
  pub before_rest : (a b c : V) → order a b ≡ Less → (order c b ≡ Less → ⊥) → order a c ≡ Less
  before_rest a b c h n = go (order c b) refl
    where
      go : (o : Ordering) → order c b ≡ o → order a c ≡ Less
      go Less e = absurd (n e)
      go Equal e = ap (order a) (lawful.exact c b e) ∙ h
      go Greater e = lawful.chained a b c h (lawful.turned c b ∙ ap ordering_reverse e)

  module _ (P : V → Type 0) (at : ℕ → V) where
    beaten : (n : ℕ) (best : Option ℕ) → FirstLeast order P n at best → P (at n) → Beats order (option_map at best) (at n) → Minimal order P (n + 1) at n
    beaten n None h p b j l q g = ⊎_elim (λ e. not_itself (at n) (ap (λ i. order (at i) (at n)) (sym e) ∙ g)) (λ e. h j (omega arith) q) (cases_eq j n)
    beaten n (Some m) h p b j l q g = ⊎_elim
        (λ e. not_itself (at n) (ap (λ i. order (at i) (at n)) (sym e) ∙ g))
        (λ e. h.2 j (omega arith) q (lawful.chained (at j) (at n) (at m) g b))
        (cases_eq j n)

    newer : (n : ℕ) (best : Option ℕ) → FirstLeast order P n at best → Beats order (option_map at best) (at n) → (j : ℕ) → j < n → P (at j) → order (at n) (at j) ≡ Less
    newer n None h b j l q = absurd (h j l q)
    newer n (Some m) h b j l q = before_rest (at n) (at m) (at j) b (h.2 j l q)

    pub least_better : (n : ℕ) (best : Option ℕ) → FirstLeast order P n at best → P (at n) → Beats order (option_map at best) (at n) → FirstLeast order P (n + 1) at (Some n)
    least_better n best h p b = (omega arith, p, beaten n best h p b, λ j l q g. g n (omega arith) p (newer n best h b j l q))

    pub least_same : (n : ℕ) (best : Option ℕ) → FirstLeast order P n at best → (P (at n) → Beats order (option_map at best) (at n) → ⊥) → FirstLeast order P (n + 1) at best
    least_same n None h t = λ j l q. ⊎_elim (λ e. t (subst (λ i. P (at i)) e q) tt) (λ e. h j (omega arith) q) (cases_eq j n)
    least_same n (Some m) h t = (
      omega (arith, h.0),
      h.1,
      (λ j l q g. ⊎_elim (λ e. t (subst (λ i. P (at i)) e q) (ap (λ i. order (at i) (at m)) (sym e) ∙ g)) (λ e. h.2 j (omega arith) q g) (cases_eq j n)),
      (λ j l q g. h.3 j l q (λ i k. g i (omega arith))),
    )

-- A turn of the search: the best so far is an index with the item there, which `item` reads.
module _ {X Y V : Type 0} (order : V → V → Ordering) (reads : X → V) (item : Y → X) (xs : List X) (P : V → Type 0) where
  abbrev pub at : X → ℕ → V
  at d j = reads (get_or xs j d)

  -- the best of the first i items
  pub record Best (i : ℕ) (best : Option (ℕ × Y)) : Type 0 where
    pub there : IfSome best (λ p. (p.0 < i) × ((d : X) → get_or xs p.0 d ≡ item p.1))
    pub least : (d : X) → FirstLeast order P i (at d) (option_map (λ p. p.0) best)

  same_best : (i : ℕ) (d : X) (best : Option (ℕ × Y)) → IfSome best (λ p. (p.0 < i) × ((d : X) → get_or xs p.0 d ≡ item p.1)) → option_map (λ p. reads (item p.1)) best ≡ option_map (at d) (option_map (λ p. p.0) best)
  same_best i d None h = refl
  same_best i d (Some p) h = ap (λ x. Some (reads x)) (sym (h.1 d))

  below : (i : ℕ) (best : Option (ℕ × Y)) → IfSome best (λ p. (p.0 < i) × ((d : X) → get_or xs p.0 d ≡ item p.1)) → IfSome best (λ p. (p.0 < i + 1) × ((d : X) → get_or xs p.0 d ≡ item p.1))
  below i None h = tt
  below i (Some p) h = (omega (arith, h.0), h.1)

  module _ (lawful : Lawful order) (i : ℕ) (best best' : Option (ℕ × Y)) (y : Y) (l : i < length xs) (here : item y ≡ get_or xs i (item y)) (b : Best i best) where
    reads_at : (d : X) → get_or xs i d ≡ item y
    reads_at d = sym (here ∙ get_or_default xs i (item y) d l)

    -- the item at i is the best then
    pub better : P (reads (item y)) → Beats order (option_map (λ p. reads (item p.1)) best) (reads (item y)) → best' ≡ Some (i, y) → Best (i + 1) best'
    better p q e = subst (Best (i + 1)) (sym e) (record {
      there = (omega arith, reads_at);
      least = λ d. least_better order lawful P (at d) i (option_map (λ p. p.0) best) (b.least d)
          (subst (λ x. P (reads x)) (sym (reads_at d)) p)
          (subst (λ x. Beats order (option_map (at d) (option_map (λ p. p.0) best)) (reads x)) (sym (reads_at d)) (subst (λ o. Beats order o (reads (item y))) (same_best i d best b.there) q));
    })

    -- the best stays
    pub stays : (P (reads (item y)) → Beats order (option_map (λ p. reads (item p.1)) best) (reads (item y)) → ⊥) → best' ≡ best → Best (i + 1) best'
    stays t e = subst (Best (i + 1)) (sym e) (record {
      there = below i best b.there;
      least = λ d. least_same order lawful P (at d) i (option_map (λ p. p.0) best) (b.least d)
          (λ p q. t (subst (λ x. P (reads x)) (reads_at d) p)
          (subst (λ o. Beats order o (reads (item y))) (sym (same_best i d best b.there)) (subst (λ x. Beats order (option_map (at d) (option_map (λ p. p.0) best)) (reads x)) (reads_at d) q)));
    })

  -- the search is over where all have been looked at
  pub at_end : (i n : ℕ) (best : Option (ℕ × Y)) (r : Option ℕ) → i ≤ n → n ≤ i → option_map (λ p. p.0) best ≡ r → Best i best → (d : X) → FirstLeast order P n (at d) r
  at_end i n best r low high e b d = let m : i ≡ n = omega arith in subst (FirstLeast order P n (at d)) e (subst (λ (k : ℕ). FirstLeast order P k (at d) (option_map (λ p. p.0) best)) m (b.least d))

-- where all are looked at, only an empty slice has no least
pub least_within : {X V : Type 0} (order : V → V → Ordering) (reads : X → V) (xs : List X) (r : Option ℕ) → ((d : X) → FirstLeast order (λ _. Unit {0}) (length xs) (λ j. reads (get_or xs j d)) r) → IfSome r (λ i. i < length xs) → MatchOption r (length xs ≡ 0) (λ i. i < length xs)
least_within order reads [] None f h = refl
least_within order reads (x ∷ xs) None f h = absurd (f x 0 (omega arith) tt)
least_within order reads xs (Some i) f h = h

-- a bound of an index may grow, and another fact may stand beside it
pub within_more : (best : Option ℕ) (n m : ℕ) → n < m → IfSome best (λ b. b < n) → IfSome best (λ b. b < m)
within_more None n m l h = tt
within_more (Some b) n m l h = omega arith

pub within_both : (r : Option ℕ) (n : ℕ) (Q : Type 0) → Q → IfSome r (λ i. i < n) → IfSome r (λ i. (i < n) × Q)
within_both None n Q q h = tt
within_both (Some i) n Q q h = (h, q)
