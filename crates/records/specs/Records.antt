-- The records of a table of lists, in the table's order: which are in use, the one of a key, and the keys of those in use by rank.
use Rattle.std.specs.Prelude.{◌≡◌, ℕ, zero, suc, ◌<◌, ◌≤◌, List, [], ◌∷◌, map, length, Some, None, Option, ◌≢◌, slice_index, slice_index_or}
use Rattle.std.specs.declared.cmp.Ordering.TheVariants.{Less, Equal, Greater}
use Rattle.std.specs.declared.cmp.Ordering.{Ordering}
use Rattle.order.specs.Keys.{Key, key_in, key_order}
use Rattle.store.specs.Lists.{Lists, keys_of}
use Rattle.store.specs.Rows.{Row, lists_of}
use Rattle.records.specs.declared.record.ListRecord.{ListRecord}

-- the key and the first node's number of the record at i
abbrev pub key_at : List ListRecord → ℕ → Key
key_at rs i = slice_index_or (map (λ r. key_in r.name) rs) i []

abbrev pub first_at : List ListRecord → ℕ → ℕ
first_at rs i = slice_index (map (λ r. r.first) rs) i

-- ---- the record of a key

-- the record at i is in use, and has the key k
abbrev pub Has : List ListRecord → Key → ℕ → Type 0
Has rs k i = (first_at rs i ≢ 0) × (key_at rs i ≡ k)

-- the first record in use with the key k, or that there is none
abbrev pub Found : List ListRecord → Key → Option ℕ → Type 0
Found rs k None = (i : ℕ) → i < length rs → Has rs k i → ⊥
Found rs k (Some e) = (e < length rs) × Has rs k e × ((i : ℕ) → i < e → Has rs k i → ⊥)

-- ---- the keys by rank

-- a row of the key k in front, unless the first node's number is 0
abbrev pub mark : ℕ → Key → List Row → List Row
mark zero k ps = ps
mark (suc n) k ps = (k, []) ∷ ps

-- a row for each record in use, with the empty value
unfoldable pub marks : List ListRecord → List Row
marks [] = []
marks (r ∷ rs) = mark r.first (key_in r.name) (marks rs)

-- lists that have just the keys of the records in use
abbrev pub marked : List ListRecord → Lists
marked rs = lists_of (marks rs)

-- a record in use with the key at a rank, or that there is no such key
abbrev pub Ranked : List ListRecord → ℕ → Option ℕ → Type 0
Ranked rs rank None = length (keys_of (marked rs)) ≤ rank
Ranked rs rank (Some e) = (e < length rs) × (first_at rs e ≢ 0) × (rank < length (keys_of (marked rs))) × (key_at rs e ≡ slice_index_or (keys_of (marked rs)) rank [])

-- ---- records in order

-- what a record is to the order: its key, or nothing where it is free
abbrev pub reading : ℕ → Key → Option Key
reading zero k = None
reading (suc n) k = Some k

abbrev pub reading_of : ListRecord → Option Key
reading_of r = reading r.first (key_in r.name)

-- by their keys, those that are free last
abbrev pub used_order : Option Key → Option Key → Ordering
used_order None None = Equal
used_order None (Some b) = Greater
used_order (Some a) None = Less
used_order (Some a) (Some b) = key_order a b
