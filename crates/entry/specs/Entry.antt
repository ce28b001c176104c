-- The entry of a value: an encoding, its data, and how many bytes these two are.
use Rattle.std.specs.Prelude.{◌≡◌, ℕ, zero, suc, ◌+◌, ◌-◌, ◌*◌, ◌/◌, ◌%◌, ◌^◌, ◌<◌, ◌≤◌, Bool, false, cond, ◌&&◌, List, [], ◌∷◌, ◌++◌, length, take, drop, ℤ, pos, negsuc, Some, None, Option, ◌==◌, nat_le, nat_lt, slice_index, unsigned_abs}
use Rattle.std.specs.Int.Signed.{mag}
use Rattle.decimal.specs.Integer.{integer}
use Rattle.store.specs.Limits.{longest_value}
use Rattle.store.specs.Answers.{over}

-- the most bytes that an entry has: two of encoding, the longest value, one of length
abbrev pub longest_entry : ℕ
longest_entry = 67

-- ---- integers

-- from -2 ^ k to 2 ^ k - 1
abbrev pub fits : ℕ → ℤ → Bool
fits k z = nat_lt (mag z) (2 ^ k)

-- from 0 to 127
abbrev pub tiny : ℤ → Bool
tiny (pos n) = nat_lt n 128
tiny (negsuc n) = false

-- an integer modulo m: its two's complement, where m is a power of two
abbrev pub residue : ℕ → ℤ → ℕ
residue m (pos n) = n % m
residue m (negsuc n) = m - 1 - n % m

-- the n low bytes of a number, the lowest first
abbrev pub low : ℕ → ℕ → List ℕ
low zero u = []
low (suc n) u = u % 256 ∷ low n (u / 256)

-- 13 bits of two's complement, the high 5 with the encoding
abbrev pub thirteen : ℤ → List ℕ
thirteen z = (192 + residue (2 ^ 13) z / 256) ∷ (residue (2 ^ 13) z % 256) ∷ []

-- the encoding c, and n bytes of two's complement
abbrev pub wide : ℕ → ℕ → ℤ → List ℕ
wide c n z = c ∷ low n (residue (256 ^ n) z)

-- an integer's encoding and data: the first, and so the shortest, that fits
abbrev pub number : ℤ → List ℕ
number z =
    cond (tiny z) (unsigned_abs z ∷ [])
    (cond (fits 12 z) (thirteen z)
    (cond (fits 15 z) (wide 241 2 z)
    (cond (fits 23 z) (wide 242 3 z)
    (cond (fits 31 z) (wide 243 4 z) (wide 244 8 z)))))

-- ---- entries

-- the encoding of any other text, of its length up to 63 or past it, and the text
abbrev pub text : List ℕ → List ℕ
text v = cond (nat_le (length v) 63) ((128 + length v) ∷ v) ((224 + length v / 256) ∷ (length v % 256) ∷ v)

abbrev pub body_of : Option ℤ → List ℕ → List ℕ
body_of (Some z) v = number z
body_of None v = text v

-- a value's encoding and data: an integer text is written as its integer
abbrev pub body : List ℕ → List ℕ
body v = body_of (integer v) v

abbrev pub entry : List ℕ → List ℕ
entry v = body v ++ length (body v) ∷ []

-- ---- spans

-- how many bytes an encoding and its data are, told by the first byte, and at E0 by the second too; 0 where no entry begins so
abbrev pub told : List ℕ → ℕ
told bytes =
    cond (nat_lt (slice_index bytes 0) 128) 1
    (cond (nat_lt (slice_index bytes 0) 192) (slice_index bytes 0 - 128 + 1)
    (cond (nat_lt (slice_index bytes 0) 224) 2
    (cond (nat_lt (slice_index bytes 0) 240) ((slice_index bytes 0 - 224) * 256 + slice_index bytes 1 + 2)
    (cond (slice_index bytes 0 == 241) 3
    (cond (slice_index bytes 0 == 242) 4
    (cond (slice_index bytes 0 == 243) 5
    (cond (slice_index bytes 0 == 244) 9 0)))))))

-- how many bytes the entry in front spans: one more, for its length; none where the bytes end before
abbrev pub span_in : List ℕ → Option ℕ
span_in bytes = cond (nat_lt 0 (told bytes) && nat_lt (told bytes) (length bytes)) (Some (told bytes + 1)) None

-- ---- what the functions answer and leave

-- the entry is written over the front of `out`, and its length told; or the value is too long, and `out` stays
abbrev pub Encoded : List ℕ → List ℕ → List ℕ → Option ℕ → Type 0
Encoded v out out' None = (longest_value < length v) × (out' ≡ out)
Encoded v out out' (Some n) = (length v ≤ longest_value) × (n ≤ longest_entry) × (n ≡ length (entry v)) × (out' ≡ over out (entry v))

-- the bytes begin with the entry of a short value
abbrev pub Begins : List ℕ → List ℕ → List ℕ → Type 0
Begins bytes v rest = (length v ≤ longest_value) × (bytes ≡ entry v ++ rest)

-- a value and how many bytes its entry spans: the value is written over the front of `out`, and the rest follows its entry
pub record Read (bytes out out' : List ℕ) (size span : ℕ) (v : List ℕ) : Type 0 where
  pub begins : Begins bytes v (drop span bytes)
  pub sized : size ≡ length v
  pub spanned : span ≡ length (entry v)
  pub left : out' ≡ over out v

-- the value whose entry the bytes begin with is read; or there is none such, and `out` stays
abbrev pub Decoded : List ℕ → List ℕ → List ℕ → Option (ℕ × ℕ) → Type 0
Decoded bytes out out' None = ((v rest : List ℕ) → Begins bytes v rest → ⊥) × (out' ≡ out)
Decoded bytes out out' (Some p) = (p.0 ≤ longest_value) × (2 ≤ p.1) × (p.1 ≤ length bytes) × Read bytes out out' p.0 p.1 (take p.0 out')

-- the same, for a caller who knows the value
abbrev pub ReadsBack : List ℕ → List ℕ → List ℕ → Option (ℕ × ℕ) → Type 0
ReadsBack bytes out out' r = (v rest : List ℕ) → Begins bytes v rest → (r ≡ Some (length v, length (entry v))) × (out' ≡ over out v)
