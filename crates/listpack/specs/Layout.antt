-- The bytes of a listpack: how many they are in all, how many entries, the entries of its values one after another, and FF.
use Rattle.std.specs.Prelude.{◌≡◌, ℕ, zero, suc, ◌+◌, ◌-◌, ◌*◌, ◌≤◌, List, [], ◌∷◌, ◌++◌, length, take, drop, Some, None, Option, slice_index, slice_index_or}
use Rattle.store.specs.Limits.{longest_value}
use Rattle.store.specs.Lists.{Value}
use Rattle.entry.specs.Entry.{entry, low, span_in}
use Rattle.entry.specs.Reading.{value_in}

-- the most bytes that a listpack has
abbrev pub most_bytes : ℕ
most_bytes = 508

-- the entries of values, one after another
unfoldable pub entries : List Value → List ℕ
entries [] = []
entries (v ∷ vs) = entry v ++ entries vs

-- how many bytes the listpack of values has: 6 before the entries, one after them
abbrev pub total : List Value → ℕ
total vs = 7 + length (entries vs)

-- the bytes before the entries
abbrev pub header : ℕ → ℕ → List ℕ
header size count = low 4 size ++ low 2 count

unfoldable pub pack : List Value → List ℕ
pack vs = header (total vs) (length vs) ++ (entries vs ++ 255 ∷ [])

-- ---- the values in bytes

-- how far the next entry is
abbrev pub step : Option ℕ → ℕ
step None = 0
step (Some n) = n

abbrev pub given : Option Value → Value
given None = []
given (Some v) = v

-- the value of the entry that comes first: the last byte of the entry says how long the rest is
unfoldable pub first_value : List ℕ → Value
first_value bytes = given (value_in (take (step (span_in bytes) - 1) bytes))

-- the values of n entries, one after another
unfoldable pub read : ℕ → List ℕ → List Value
read zero bytes = []
read (suc n) bytes = first_value bytes ∷ read n (drop (step (span_in bytes)) bytes)

-- the values of a listpack
unfoldable pub values : List ℕ → List Value
values bytes = read (slice_index bytes 4 + 256 * slice_index bytes 5) (drop 6 bytes)

-- no value is too long; past the last one stands the empty one
abbrev pub Shorts : List Value → Type 0
Shorts vs = (k : ℕ) → length (slice_index_or vs k []) ≤ longest_value

-- the bytes begin with the listpack of their values
abbrev pub Lawful : List ℕ → Type 0
Lawful bytes = (take (total (values bytes)) bytes ≡ pack (values bytes)) × (total (values bytes) ≤ most_bytes) × Shorts (values bytes)
