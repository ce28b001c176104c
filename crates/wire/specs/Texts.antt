-- Sets of texts, and how a text can fail to begin with one of a set.
use Rattle.std.specs.Prelude.{◌≡◌, ℕ, ◌+◌, List, ◌∷◌, ◌++◌, take}

-- xs is a beginning of ys
abbrev pub Begins : List ℕ → List ℕ → Type 0
Begins xs ys = (t : List ℕ) × (ys ≡ xs ++ t)

-- s is a proper beginning of a text of L
pub record Short (L : List ℕ → Type 0) (s : List ℕ) : Type 0 where
  pub word : List ℕ
  pub lawful : L word
  pub next : ℕ
  pub rest : List ℕ
  pub split : word ≡ s ++ (next ∷ rest)

-- the first p bytes of s begin a text of L, the first p + 1 begin none, and no text of L begins s
pub record Strays (L : List ℕ → Type 0) (s : List ℕ) (p : ℕ) : Type 0 where
  pub word : List ℕ
  pub lawful : L word
  pub begins : Begins (take p s) word
  pub leaves : (w : List ℕ) → L w → Begins (take (p + 1) s) w → ⊥
  pub open_ended : (w : List ℕ) → L w → Begins w s → ⊥
