-- Keys, their plain rows and their order.
use Rattle.std.specs.Prelude.{◌≡◌, ℕ, ◌<◌, ◌≤◌, min, List, [], ◌∷◌, length, take, Result, MatchResult}
use Rattle.std.specs.declared.cmp.Ordering.TheVariants.{Less, Equal, Greater}
use Rattle.std.specs.declared.cmp.Ordering.{Ordering}
use Rattle.std.specs.Ordering.{ordering_then, nat_cmp}
use Rattle.order.specs.declared.ShortBytes.{ShortBytes}
use Rattle.order.specs.declared.TooLong.{TooLong}

-- the most bytes that a key has
abbrev pub longest_key : ℕ
longest_key = 32

abbrev pub Key : Type 0
Key = List ℕ

-- byte by byte, unsigned; a proper beginning comes first
unfoldable pub key_order : Key → Key → Ordering
key_order [] [] = Equal
key_order [] (y ∷ ys) = Less
key_order (x ∷ xs) [] = Greater
key_order (x ∷ xs) (y ∷ ys) = ordering_then (nat_cmp x y) (key_order xs ys)

-- the bytes of a row with room for n: its length is read within n, so every row has some
abbrev pub bytes_in : {n : ℕ} → ShortBytes n → List ℕ
bytes_in {n} r = take (min r.len n) r.bytes

-- the most bytes that a row with room for n takes: its length is one byte
abbrev pub most_of : ℕ → ℕ
most_of n = min n 255

-- a row of these bytes, or that they are too many
abbrev pub Holds : (n : ℕ) → List ℕ → Result (ShortBytes n) TooLong → Type 0
Holds n bytes r = MatchResult r (λ row. (length bytes ≤ most_of n) × (bytes_in row ≡ bytes)) (λ _. most_of n < length bytes)

-- the key in a row
abbrev pub key_in : ShortBytes longest_key → Key
key_in r = bytes_in r
