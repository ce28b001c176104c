-- What a quicklist keeps can be so in one way only: its type asks for these proofs.
use Rattle.std.specs.Prelude.{ℕ, List, [], ◌∷◌}
use Rattle.std.specs.Coded.{×_prop}
use native.Mathlib.Nat.{ℕ_set}
use Rattle.links.specs.Links.{Goes, Links, Sound, Pool}

Goes-prop : (f : ℕ → ℕ) (a : ℕ) (xs : List ℕ) → IsProp (Goes f a xs)
Goes-prop f a [] = ℕ_set _ _
Goes-prop f a (x ∷ xs) = ×_prop (ℕ_set _ _) (Goes-prop f x xs)

pub Sound-prop : (size : ℕ) (s : Links) → IsProp (Sound size s)
Sound-prop size s x y = λ k. record {
  ahead = λ e l. Goes-prop _ _ _ (x.ahead e l) (y.ahead e l) k;
  back = λ e l. Goes-prop _ _ _ (x.back e l) (y.back e l) k;
  freed = Goes-prop _ _ _ x.freed y.freed k;
  each = λ n. ℕ_set _ _ (x.each n) (y.each n) k;
  full = ℕ_set _ _ x.full y.full k;
}

pub Pool-prop : (size : ℕ) (next used : ℕ → ℕ) (free : ℕ) → IsProp (Pool size next used free)
Pool-prop size next used free x y = λ k. record {
  freed = Goes-prop _ _ _ x.freed y.freed k;
  each = λ n. ℕ_set _ _ (x.each n) (y.each n) k;
  full = ℕ_set _ _ x.full y.full k;
}
