-- Where entries stand among the bytes of a listpack: what the private functions are about.
use Rattle.std.specs.Prelude.{◌≡◌, ℕ, ◌+◌, List, ◌++◌, length, take, drop}
use Rattle.store.specs.Lists.{Value}
use Rattle.listpack.specs.Layout.{entries, read, Shorts}

-- where the entry of the value at i begins
abbrev pub place : List Value → ℕ → ℕ
place vs i = 6 + length (entries (take i vs))

-- the bytes from `from` up to `to` out, others in their place
abbrev pub spliced : List ℕ → ℕ → ℕ → List ℕ → List ℕ
spliced bytes from to new = take from bytes ++ (new ++ drop to bytes)

-- bytes that are n entries and nothing else
pub record Run (n : ℕ) (bytes : List ℕ) : Type 0 where
  pub whole : entries (read n bytes) ≡ bytes
  pub short : Shorts (read n bytes)

-- the values from i on up to j out, others in their place
abbrev pub exchanged : List Value → ℕ → ℕ → List Value → List Value
exchanged vs i j new = take i vs ++ (new ++ drop j vs)
