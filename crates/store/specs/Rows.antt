-- The lists that a sequence of rows shows, each a key and a value: a key's list is the values of its rows, in their order.
use Rattle.std.specs.Prelude.{◌≡◌, ℕ, zero, suc, ◌<◌, ◌≤◌, cond, List, [], ◌∷◌, map, length, take, Some, None, Option, slice_index_or}
use Rattle.std.specs.Ordering.{is_eq}
use Rattle.order.specs.Keys.{Key, key_order, longest_key}
use Rattle.store.specs.Limits.{longest_value}
use Rattle.store.specs.Lists.{Value, Lists, at, put, held, keys_of}

abbrev pub Row : Type 0
Row = Key × Value

-- the values of the rows of k, in their order
unfoldable pub values_of : Key → List Row → List Value
values_of k [] = []
values_of k (p ∷ ps) = cond (is_eq (key_order k p.0)) (p.1 ∷ values_of k ps) (values_of k ps)

-- the lists that rows show: each row adds its value to the left of its key's list, the last row first
unfoldable pub lists_of : List Row → Lists
lists_of [] = []
lists_of (p ∷ ps) = put (lists_of ps) p.0 (p.1 ∷ at (lists_of ps) p.0)

-- one place further in, unless the row is the one sought
abbrev pub onward : ℕ → (ℕ → ℕ) → ℕ
onward zero seek = zero
onward (suc i) seek = suc (seek i)

-- where the row of k stands that has i rows of k before it; past the last row where there is none
unfoldable pub spot : Key → ℕ → List Row → ℕ
spot k i [] = zero
spot k i (p ∷ ps) = cond (is_eq (key_order k p.0)) (onward i (λ j. spot k j ps)) (suc (spot k i ps))

-- a row that a store can hold
abbrev pub Short : Row → Type 0
Short p = (length p.0 ≤ longest_key) × (length p.1 ≤ longest_value)

-- the keys of rows
abbrev pub names : List Row → List Key
names ps = map (λ p. p.0) ps

-- which row has the key at a rank, or that there is no such key
abbrev pub AtRank : List Row → ℕ → Option ℕ → Type 0
AtRank ps r None = length (keys_of (lists_of ps)) ≤ r
AtRank ps r (Some b) = (b < length (names ps)) × (r < length (keys_of (lists_of ps))) × (slice_index_or (names ps) b [] ≡ slice_index_or (keys_of (lists_of ps)) r [])

-- what can be relied on of rows without a look at the definitions
pub record RowLaws : Type 0 where
  -- a key's list is the values of its rows, and every row is an element
  pub shows : (k : Key) (ps : List Row) → at (lists_of ps) k ≡ values_of k ps
  pub counts : (ps : List Row) → held (lists_of ps) ≡ length ps
  -- at the spot of the element at i stands its row, and i rows of the key stand before it
  pub stands : (k : Key) (i : ℕ) (ps : List Row) → i < length (values_of k ps) → (d : Row) → (spot k i ps < length ps) × (slice_index_or ps (spot k i ps) d ≡ (k, slice_index_or (values_of k ps) i []))
  pub before : (k : Key) (i : ℕ) (ps : List Row) → i ≤ length (values_of k ps) → length (values_of k (take (spot k i ps) ps)) ≡ i
  -- where there is no such element, the spot is past all rows
  pub past : (k : Key) (i : ℕ) (ps : List Row) → length (values_of k ps) ≤ i → spot k i ps ≡ length ps
