-- What can be relied on of entries without a look at the definitions, and worked cases.
use Rattle.std.specs.Prelude.{◌≡◌, ℕ, ◌<◌, ◌≤◌, List, [], ◌∷◌, ◌++◌, length, Some, slice_index}
use Rattle.store.specs.Limits.{longest_value}
use Rattle.entry.specs.Entry.{body, entry, longest_entry, span_in}
use Rattle.entry.specs.Reading.{value_in}

pub record EntryLaws : Type 0 where
  -- decoding undoes encoding, and nothing else is decoded
  pub decodes : (v : List ℕ) → length v ≤ longest_value → value_in (body v) ≡ Some v
  pub only : (bs v : List ℕ) → ((i : ℕ) → slice_index bs i < 256) → value_in bs ≡ Some v → (bs ≡ body v) × (length v ≤ longest_value)
  -- values are equal where their entries are; no entry begins another value's, and none ends it
  pub equal : (v w : List ℕ) → length v ≤ longest_value → length w ≤ longest_value → entry v ≡ entry w → v ≡ w
  pub apart : (v w x y : List ℕ) → length v ≤ longest_value → length w ≤ longest_value → entry v ++ x ≡ entry w ++ y → v ≡ w
  pub apart_backward : (v w x y : List ℕ) → length v ≤ longest_value → length w ≤ longest_value → x ++ entry v ≡ y ++ entry w → v ≡ w
  -- how long an entry is, and that its encoding tells it
  pub some : (v : List ℕ) → length v ≤ longest_value → 2 ≤ length (entry v)
  pub few : (v : List ℕ) → length v ≤ longest_value → length (entry v) ≤ longest_entry
  pub spans : (v x : List ℕ) → length v ≤ longest_value → span_in (entry v ++ x) ≡ Some (length (entry v))
  -- an entry of bytes is bytes
  pub bytes : (v : List ℕ) → length v ≤ longest_value → ((i : ℕ) → slice_index v i < 256) → (i : ℕ) → slice_index (entry v) i < 256

-- values in characters, entries in bytes
pub record Worked : Type 0 where
  -- the empty value: 80 01
  pub empty : entry [] ≡ 128 ∷ 1 ∷ []
  -- 127: 7F 01
  pub most_tiny : entry (49 ∷ 50 ∷ 55 ∷ []) ≡ 127 ∷ 1 ∷ []
  -- -1: DF FF 02
  pub minus_one : entry (45 ∷ 49 ∷ []) ≡ 223 ∷ 255 ∷ 2 ∷ []
  -- 4095: CF FF 02
  pub most_thirteen : entry (52 ∷ 48 ∷ 57 ∷ 53 ∷ []) ≡ 207 ∷ 255 ∷ 2 ∷ []
  -- -4096: D0 00 02
  pub least_thirteen : entry (45 ∷ 52 ∷ 48 ∷ 57 ∷ 54 ∷ []) ≡ 208 ∷ 0 ∷ 2 ∷ []
  -- 4096: F1 00 10 03
  pub past_thirteen : entry (52 ∷ 48 ∷ 57 ∷ 54 ∷ []) ≡ 241 ∷ 0 ∷ 16 ∷ 3 ∷ []
  -- 007: 83 30 30 37 04
  pub no_integer : entry (48 ∷ 48 ∷ 55 ∷ []) ≡ 131 ∷ 48 ∷ 48 ∷ 55 ∷ 4 ∷ []
