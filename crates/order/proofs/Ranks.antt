-- How the items of a rank are found one after another.
use Rattle.std.proofs.Common.{◌≡◌, ℕ, zero, suc, ◌+◌, ◌-◌, ◌<◌, ◌≤◌, IfSome, MatchOption, Some, None, Option, Ordering, sym, refl, subst, arith}
use Rattle.order.specs.Orders.{FirstLeast, After, Ranked, Next}

module _ {V : Type 0} (order : V → V → Ordering) (n : ℕ) (at : ℕ → V) where
  pub next_ranked : (k b : ℕ) (before r : Option ℕ) → before ≡ Some b → Ranked order n at k before → FirstLeast order (After order (Some (at b))) n at r → Ranked order n at (k + 1) r
  unfolding Ranked
  next_ranked k b before r e h f = let m : suc k ≡ k + 1 = omega arith in subst (λ (j : ℕ). Ranked order n at j r) m (before, h, subst (λ o. Next order n at o r) (sym e) f)

  none_after : (m : ℕ) → Ranked order n at m None → Ranked order n at (suc m) None
  unfolding Ranked
  none_after m h = (None, h, refl)

  none_on : (k j : ℕ) → Ranked order n at k None → Ranked order n at (j + k) None
  unfolding Ranked
  none_on k zero h = let e : k ≡ 0 + k = omega arith in subst (λ (m : ℕ). Ranked order n at m None) e h
  none_on k (suc j) h = let e : suc (j + k) ≡ suc j + k = omega arith in subst (λ (m : ℕ). Ranked order n at m None) e (none_after (j + k) (none_on k j h))

  pub none_ranked : (k rank : ℕ) (before r : Option ℕ) → before ≡ None → r ≡ None → k ≤ rank → Ranked order n at k before → Ranked order n at rank r
  none_ranked k rank before r e g l h =
      let m : (rank - k) + k ≡ rank = omega arith in
      subst (Ranked order n at rank) (sym g) (subst (λ (j : ℕ). Ranked order n at j None) m (none_on k (rank - k) (subst (Ranked order n at k) e h)))

  pub first_ranked : (r : Option ℕ) → FirstLeast order (λ _. Unit {0}) n at r → Ranked order n at 0 r
  unfolding Ranked
  first_ranked r h = h

pub within_some : (n : ℕ) (r : Option ℕ) → MatchOption r (n ≡ 0) (λ i. i < n) → IfSome r (λ i. i < n)
within_some n None h = tt
within_some n (Some i) h = h
