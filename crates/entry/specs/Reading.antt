-- How entries are read, step by step. `Entry` says what it is for, and `Laws` that the two agree.
use Rattle.std.specs.Prelude.{◌≡◌, ℕ, ◌+◌, ◌-◌, ◌*◌, ◌^◌, ◌≤◌, Bool, cond, ◌&&◌, List, [], ◌∷◌, length, drop, ℤ, pos, negsuc, Some, None, Option, ◌==◌, nat_le, nat_lt, slice_index}
use Rattle.std.specs.Int.Signed.{mag}
use Rattle.std.specs.Fmt.{signed_decimal}
use Rattle.decimal.specs.Integer.{integer}
use Rattle.store.specs.Limits.{longest_value}
use Rattle.store.specs.Answers.{over}
use Rattle.entry.specs.Entry.{tiny, span_in}

-- the number of bytes, the lowest first
abbrev pub unlow : List ℕ → ℕ
unlow [] = 0
unlow (b ∷ bs) = b + 256 * unlow bs

-- the integer of a two's complement whose sign bit is t
abbrev pub back : ℕ → ℕ → ℤ
back t u = cond (nat_lt u t) (pos u) (negsuc (2 * t - 1 - u))

-- z, unless a shorter encoding has it
abbrev pub unless : Bool → ℤ → Option ℤ
unless shorter z = cond shorter None (Some z)

abbrev pub tiny_in : ℕ → Option ℤ
tiny_in b = cond (nat_lt b 128) (Some (pos b)) None

abbrev pub thirteen_in : ℕ → ℕ → Option ℤ
thirteen_in b c = cond (nat_le 192 b && nat_lt b 224) (unless (tiny (back (2 ^ 12) ((b - 192) * 256 + c))) (back (2 ^ 12) ((b - 192) * 256 + c))) None

-- after the encoding c an integer with the sign bit t, at least `least` away from 0 or -1
abbrev pub wide_in : ℕ → ℕ → ℕ → List ℕ → Option ℤ
wide_in c t least bs = cond (slice_index bs 0 == c) (unless (nat_lt (mag (back t (unlow (drop 1 bs)))) least) (back t (unlow (drop 1 bs)))) None

-- the integer whose encoding and data these bytes are
abbrev pub number_in : List ℕ → Option ℤ
number_in bs =
    cond (length bs == 1) (tiny_in (slice_index bs 0))
    (cond (length bs == 2) (thirteen_in (slice_index bs 0) (slice_index bs 1))
    (cond (length bs == 3) (wide_in 241 (2 ^ 15) (2 ^ 12) bs)
    (cond (length bs == 4) (wide_in 242 (2 ^ 23) (2 ^ 15) bs)
    (cond (length bs == 5) (wide_in 243 (2 ^ 31) (2 ^ 23) bs)
    (cond (length bs == 9) (wide_in 244 (2 ^ 63) (2 ^ 31) bs) None)))))

-- where the text begins whose encoding and data these bytes are; past 63 bytes the first byte is E0, since a value has fewer than 256
abbrev pub text_in : List ℕ → Option ℕ
text_in bs =
    cond (nat_le 128 (slice_index bs 0) && (nat_lt (slice_index bs 0) 192 && length bs == slice_index bs 0 - 128 + 1)) (Some 1)
    (cond (slice_index bs 0 == 224 && (nat_lt 63 (slice_index bs 1) && (nat_le (slice_index bs 1) longest_value && length bs == slice_index bs 1 + 2))) (Some 2) None)

-- a text that is no integer text
abbrev pub other : List ℕ → Option ℤ → Option (List ℕ)
other t (Some z) = None
other t None = Some t

abbrev pub text_of : List ℕ → Option ℕ → Option (List ℕ)
text_of bs None = None
text_of bs (Some place) = other (drop place bs) (integer (drop place bs))

abbrev pub either : List ℕ → Option ℤ → Option (List ℕ)
either bs (Some z) = Some (signed_decimal z)
either bs None = text_of bs (text_in bs)

-- the value whose encoding and data these bytes are
abbrev pub value_in : List ℕ → Option (List ℕ)
value_in bs = either bs (number_in bs)

abbrev pub measured : List ℕ → Option ℕ → Option ℕ
measured bytes None = None
measured bytes (Some s) = cond (slice_index bytes (s - 1) == s - 1) (Some (s - 1)) None

-- how many bytes the encoding and data in front are, where the length after them is right
abbrev pub size_in : List ℕ → Option ℕ
size_in bytes = measured bytes (span_in bytes)

-- a value that is found is written over the front of `out`, and its length told; where there is none, `out` stays
abbrev pub Taken : Option (List ℕ) → List ℕ → List ℕ → Option ℕ → Type 0
Taken None out out' r = (r ≡ None) × (out' ≡ out)
Taken (Some v) out out' r = (r ≡ Some (length v)) × (length v ≤ longest_value) × (out' ≡ over out v)
