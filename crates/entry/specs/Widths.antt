-- The four widths of an integer that 13 bits do not hold.
use Rattle.std.specs.Prelude.{ℕ, ◌^◌, Bool, ◌&&◌, nat_le, nat_lt, ℤ}
use Rattle.std.specs.Int.Signed.{mag}
use Rattle.entry.specs.declared.Width.{Width}
use Rattle.entry.specs.declared.Width.TheVariants.{Bits16, Bits24, Bits32, Bits64}

-- the encoding
abbrev pub code_of : Width → ℕ
code_of Bits16 = 241
code_of Bits24 = 242
code_of Bits32 = 243
code_of Bits64 = 244

-- how many bytes of two's complement stand behind it
abbrev pub size_of : Width → ℕ
size_of Bits16 = 2
size_of Bits24 = 3
size_of Bits32 = 4
size_of Bits64 = 8

-- how far from 0 or -1 an integer of the width is at least, since a shorter form has any nearer one
abbrev pub least_of : Width → ℕ
least_of Bits16 = 2 ^ 12
least_of Bits24 = 2 ^ 15
least_of Bits32 = 2 ^ 23
least_of Bits64 = 2 ^ 31

-- the sign bit, which is farther than any integer of the width
abbrev pub sign_of : Width → ℕ
sign_of Bits16 = 2 ^ 15
sign_of Bits24 = 2 ^ 23
sign_of Bits32 = 2 ^ 31
sign_of Bits64 = 2 ^ 63

-- whether an integer takes the width, and no shorter form
abbrev pub takes : Width → ℤ → Bool
takes w z = nat_le (least_of w) (mag z) && nat_lt (mag z) (sign_of w)
