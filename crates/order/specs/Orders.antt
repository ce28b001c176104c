-- Total orders, and the least of a sequence of values.
use Rattle.std.specs.Prelude.{◌≡◌, ℕ, zero, suc, ◌<◌, Some, None, Option, ◌≢◌}
use Rattle.std.specs.declared.cmp.Ordering.TheVariants.{Less, Equal}
use Rattle.std.specs.declared.cmp.Ordering.{Ordering}
use Rattle.std.specs.Ordering.{ordering_reverse}

-- The laws of a total order; a comes before b where `order a b` is Less.
pub record Lawful {V : Type 0} (order : V → V → Ordering) : Type 0 where
  -- of two different values exactly one comes first
  pub exact : (a b : V) → order a b ≡ Equal → a ≡ b
  pub turned : (a b : V) → order b a ≡ ordering_reverse (order a b)
  -- none comes before itself
  pub itself : (a : V) → order a a ≡ Equal
  -- the order is transitive
  pub chained : (a b c : V) → order a b ≡ Less → order b c ≡ Less → order a c ≡ Less

-- A sequence is its length n and its values by index, `at`; P says which values are looked at.
module _ {V : Type 0} (order : V → V → Ordering) (P : V → Type 0) (n : ℕ) (at : ℕ → V) where
  -- none of the values that are looked at comes before the one at i
  abbrev pub Minimal : ℕ → Type 0
  Minimal i = (j : ℕ) → j < n → P (at j) → order (at j) (at i) ≢ Less

  -- the first index at which a least value stands, where any value is looked at
  abbrev pub FirstLeast : Option ℕ → Type 0
  FirstLeast None = (j : ℕ) → j < n → P (at j) → ⊥
  FirstLeast (Some i) = (i < n) × P (at i) × Minimal i × ((j : ℕ) → j < i → P (at j) → Minimal j → ⊥)

-- the values that come after a bound, or all where there is none
abbrev pub After : {V : Type 0} → (V → V → Ordering) → Option V → V → Type 0
After order None v = Unit {0}
After order (Some b) v = order b v ≡ Less

-- a value comes before the best so far, where there is one
abbrev pub Beats : {V : Type 0} → (V → V → Ordering) → Option V → V → Type 0
Beats order None v = Unit {0}
Beats order (Some b) v = order v b ≡ Less

-- from an index to that of the next greater value, if there is one: the first least of the values that come after
abbrev pub Next : {V : Type 0} → (V → V → Ordering) → ℕ → (ℕ → V) → Option ℕ → Option ℕ → Type 0
Next order n at None r = r ≡ None
Next order n at (Some i) r = FirstLeast order (After order (Some (at i))) n at r

-- the index of the value with a rank, in ascending order, where equal values have one rank: that of rank 0 is the least,
-- and that of each other the next greater after the one before
unfoldable pub Ranked : {V : Type 0} → (V → V → Ordering) → ℕ → (ℕ → V) → ℕ → Option ℕ → Type 0
Ranked order n at zero r = FirstLeast order (λ _. Unit {0}) n at r
Ranked order n at (suc k) r = (before : Option ℕ) × Ranked order n at k before × Next order n at before r
