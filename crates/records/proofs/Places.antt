-- What is read at a place of a list of records.
use Rattle.std.proofs.Common.{◌≡◌, ℕ, zero, suc, ◌<◌, List, [], ◌∷◌, length, get_or, Some, None, Option, MatchOption, refl, arith}
use Rattle.std.specs.List.{AllWithin, HoldsAt}
use Rattle.order.specs.Keys.{Key, key_in}
use Rattle.records.specs.declared.record.ListRecord.{ListRecord}
use Rattle.records.specs.Records.{key_at, first_at, Has, Found, reading, reading_of}

-- a record to read past the end of a list of them
abbrev pub blank : ListRecord
blank = record { name = record { len = 0; bytes = [] }; first = 0; last = 0; count = 0; next = 0 }

pub first_read : (rs : List ListRecord) (j : ℕ) → (get_or rs j blank).first ≡ first_at rs j
first_read [] j = refl
first_read (r ∷ rs) zero = refl
first_read (r ∷ rs) (suc j) = first_read rs j

pub reading_read : (rs : List ListRecord) (j : ℕ) → reading_of (get_or rs j blank) ≡ reading (first_at rs j) (key_at rs j)
reading_read [] j = refl
reading_read (r ∷ rs) zero = refl
reading_read (r ∷ rs) (suc j) = reading_read rs j

-- what is read of the record at a place, at any default
has_read : (rs : List ListRecord) (k : Key) (j : ℕ) → Has rs k j → ((get_or rs j blank).first ≡ 0 → ⊥) × (key_in (get_or rs j blank).name ≡ k)
has_read [] k j h = h
has_read (r ∷ rs) k zero h = h
has_read (r ∷ rs) k (suc j) h = has_read rs k j h

read_has : (rs : List ListRecord) (k : Key) (j : ℕ) → ((get_or rs j blank).first ≡ 0 → ⊥) × (key_in (get_or rs j blank).name ≡ k) → Has rs k j
read_has [] k j h = h
read_has (r ∷ rs) k zero h = h
read_has (r ∷ rs) k (suc j) h = read_has rs k j h

-- the first record of which the test is true, as the answer to a look for a key
pub first_found : (rs : List ListRecord) (k : Key) (r : Option ℕ)
    → MatchOption r (AllWithin (λ it. (it.first ≡ 0 → ⊥) × (key_in it.name ≡ k) → ⊥) rs 0 (length rs))
    (λ i. (i < length rs) × HoldsAt (λ it. (it.first ≡ 0 → ⊥) × (key_in it.name ≡ k)) rs i × AllWithin (λ it. (it.first ≡ 0 → ⊥) × (key_in it.name ≡ k) → ⊥) rs 0 i) → Found rs k r
first_found rs k None h = λ i l g. h i blank (omega arith) l (has_read rs k i g)
first_found rs k (Some e) h = (h.0, read_has rs k e (h.1 blank), λ i l g. h.2 i blank (omega arith) l (has_read rs k i g))
