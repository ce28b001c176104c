-- The decimal texts of numbers of 64 bits: which byte strings are one, and the number that each writes.
use Rattle.std.specs.Prelude.{◌≡◌, ◌≢◌, ℕ, ◌≤◌, ◌^◌, ◌<◌, Bool, cond, not, ◌&&◌, ◌||◌, List, length, drop, ℤ, pos, neg_ℤ, Some, None, decimal, Option, FitsSigned, ◌==◌, nat_le, nat_lt, slice_index}
use Rattle.std.specs.Int.{w64}
use Rattle.std.specs.Str.Parse.{digits_value}
use Rattle.std.specs.Fmt.{signed_decimal}
use Rattle.std.specs.Str.{all_ascii_digits}

-- the most bytes that the text of a number has
abbrev pub longest_text : ℕ
longest_text = 20

-- not empty, and a leading zero only alone
abbrev pub plain : List ℕ → Bool
plain t = nat_lt 0 (length t) && (not (slice_index t 0 == 48) || length t == 1)

-- the number that a row of digits writes, where it has at most 64 bits
abbrev pub number : List ℕ → Option ℕ
number t = cond (all_ascii_digits t && nat_lt (digits_value 10 t) (2 ^ 64)) (Some (digits_value 10 t)) None

-- the natural number that a text writes: one digit or more with no leading zero
abbrev pub natural : List ℕ → Option ℕ
natural t = cond (plain t) (number t) None

-- n itself, below 2 ^ 63
abbrev pub above : Option ℕ → Option ℤ
above None = None
above (Some n) = cond (nat_lt n (2 ^ 63)) (Some (pos n)) None

-- -n, down to -2 ^ 63; there is no -0
abbrev pub below : Option ℕ → Option ℤ
below None = None
below (Some n) = cond (nat_lt 0 n && nat_le n (2 ^ 63)) (Some (neg_ℤ (pos n))) None

-- the integer that a text writes: a natural number, with a minus in front where it is below 0
abbrev pub integer : List ℕ → Option ℤ
integer t = cond (slice_index t 0 == 45) (below (natural (drop 1 t))) (above (natural t))

-- how every text of a number looks: it has 20 bytes at most, no plus, a zero first only alone, and none behind a minus
abbrev pub Numberlike : List ℕ → Type 0
Numberlike t = (length t ≤ longest_text) × (slice_index t 0 ≢ 43) × (slice_index t 0 ≡ 48 → length t ≡ 1) × (slice_index t 0 ≡ 45 → slice_index t 1 ≢ 48)

-- each number of 64 bits has one text, which is the one that std writes
pub record TextLaws : Type 0 where
  -- a text that is read is the text of its number
  pub reads : (t : List ℕ) (z : ℤ) → integer t ≡ Some z → (t ≡ signed_decimal z) × FitsSigned w64 z
  pub reads_natural : (t : List ℕ) (n : ℕ) → natural t ≡ Some n → (t ≡ decimal n) × (n < 2 ^ 64)
  -- the text of a number is read as that number
  pub writes : (z : ℤ) → FitsSigned w64 z → integer (signed_decimal z) ≡ Some z
  pub writes_natural : (n : ℕ) → n < 2 ^ 64 → natural (decimal n) ≡ Some n
