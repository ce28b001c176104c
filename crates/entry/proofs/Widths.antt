-- What a width's encoding tells, and what is read behind it.
use Rattle.std.proofs.Common.{◌≡◌, ◌≢◌, ℕ, ◌*◌, ◌^◌, ◌<◌, ◌≤◌, Bool, true, false, cond, not, ltb, List, [], ◌∷◌, length, get_or, ℤ, pos, negsuc, Some, None, Option, IsTrue, IfSome, IfNone, subst, sym, refl, ap, ◌∙◌, arith}
use Rattle.std.specs.Int.Signed.{mag}
use Rattle.std.specs.Bool.{then_some}
use Rattle.std.specs.Option.{option_eq}
use Rattle.std.proofs.lemmas.Bool.{cond-false}
use Rattle.std.proofs.lemmas.Bool.Decides.{nat_tests}
use Rattle.entry.specs.declared.Width.{Width}
use Rattle.entry.specs.declared.Width.TheVariants.{Bits16, Bits24, Bits32, Bits64}
use Rattle.entry.specs.contracts.WidthPartialEq.TheImpl.{eq-value}
use Rattle.entry.specs.Entry.{fits, tiny, told, number, wide}
use Rattle.entry.specs.Reading.{unlow, back, unless, number_in}
use Rattle.entry.specs.Widths.{code_of, size_of, least_of, sign_of, takes}
use Rattle.entry.proofs.Bytes.{unlow_lt, residue_back}

-- no other byte is an encoding
pub told_none : (b c : ℕ) → 240 ≤ b → ((w : Width) → code_of w ≢ b) → told (b ∷ c ∷ []) ≡ 0
told_none b c h n =
    let p = n Bits16 in
    let q = n Bits24 in
    let r = n Bits32 in
    let s = n Bits64 in
    grind (arith, nat_tests)

pub number_none : (bs : List ℕ) → 3 ≤ length bs → ((w : Width) → code_of w ≢ get_or bs 0 0) → number_in bs ≡ None
number_none bs h n =
    let p = n Bits16 in
    let q = n Bits24 in
    let r = n Bits32 in
    let s = n Bits64 in
    grind (arith, nat_tests)

pub number_wide : (w : Width) (ds : List ℕ) (z : ℤ) → length ds ≡ size_of w → z ≡ back (sign_of w) (unlow ds) → number_in (code_of w ∷ ds) ≡ unless (ltb (mag z) (least_of w)) z
number_wide Bits16 ds z e i = grind (arith, nat_tests)
number_wide w ds z e i = grind (arith, nat_tests)

-- two's complement of a width's bytes has its sign bit
pub signed : (w : Width) → 2 * sign_of w ≡ 256 ^ size_of w
signed Bits16 = refl
signed w = refl

pub within : (w : Width) (z : ℤ) → takes w z ≡ true → (2 ^ 12 ≤ mag z) × (least_of w ≤ mag z) × (mag z < sign_of w) × (sign_of w ≤ 2 ^ 63)
within Bits16 z t = grind (arith, nat_tests)
within w z t = grind (arith, nat_tests)

past : (z : ℤ) → 2 ^ 12 ≤ mag z → (tiny z ≡ false) × (fits 12 z ≡ false)
past (pos n) h = grind (arith, nat_tests)
past (negsuc n) h = grind (arith, nat_tests)

-- an integer has the form of the width that it takes
pub is_wide : (w : Width) (z : ℤ) → takes w z ≡ true → number z ≡ wide (code_of w) (size_of w) z
is_wide w z t = let p = past z (within w z t).0 in cond-false (tiny z) _ _ p.0 ∙ cond-false (fits 12 z) _ _ p.1 ∙ rest w z t
  where
    rest : (w : Width) (z : ℤ) → takes w z ≡ true → cond (fits 15 z) (wide 241 2 z) (cond (fits 23 z) (wide 242 3 z) (cond (fits 31 z) (wide 243 4 z) (wide 244 8 z))) ≡ wide (code_of w) (size_of w) z
    rest Bits16 z t = grind (arith, nat_tests)
    rest w z t = grind (arith, nat_tests)

-- and past 13 bits takes one
pub taken_by : (z : ℤ) → 2 ^ 12 ≤ mag z → mag z < 2 ^ 63 → (w : Width) × (takes w z ≡ true)
taken_by z h l = go (fits 15 z) (fits 23 z) (fits 31 z) refl refl refl
  where
    go : (a b c : Bool) → fits 15 z ≡ a → fits 23 z ≡ b → fits 31 z ≡ c → (w : Width) × (takes w z ≡ true)
    go true b c e f g = (Bits16, grind (arith, nat_tests))
    go false true c e f g = (Bits24, grind (arith, nat_tests))
    go false false true e f g = (Bits32, grind (arith, nat_tests))
    go false false false e f g = (Bits64, grind (arith, nat_tests))

pub spanned : (w : Width) (ds : List ℕ) → length ds ≡ size_of w → ((i : ℕ) → get_or ds i 0 < 256) → unlow ds < 2 * sign_of w
spanned w ds e b = omega (arith, unlow_lt ds b, ap (λ n. 256 ^ n) e, signed w)

-- an integer of a width takes it just where no shorter form holds it
own : (v w : Width) (z : ℤ) → mag z < sign_of w → takes v z ≡ true → eq-value.it v w ≡ not (ltb (mag z) (least_of w))
own Bits16 Bits16 z l t = grind (arith, nat_tests)
own v Bits16 z l t = grind (arith, nat_tests)
own v w z l t = grind (arith, nat_tests)

none_own : (w : Width) (m : ℕ) → m < 2 ^ 12 → not (ltb m (least_of w)) ≡ false
none_own Bits16 m h = grind (arith, nat_tests)
none_own w m h = grind (arith, nat_tests)

own_of : (o : Option Width) (w : Width) (z : ℤ) → mag z < sign_of w → IfSome o (λ v. IsTrue (takes v z)) → IfNone o (mag z < 2 ^ 12) → option_eq eq-value.it o (Some w) ≡ not (ltb (mag z) (least_of w))
own_of None w z l s n = sym (none_own w (mag z) n)
own_of (Some v) w z l s n = own v w z l s

unless_not : (b : Bool) (z : ℤ) → unless b z ≡ then_some (not b) z
unless_not true z = refl
unless_not false z = refl

pub number_own : (o : Option Width) (w : Width) (ds : List ℕ) (z : ℤ) → length ds ≡ size_of w → ((i : ℕ) → get_or ds i 0 < 256) → z ≡ back (sign_of w) (unlow ds)
    → IfSome o (λ v. IsTrue (takes v z)) → IfNone o (mag z < 2 ^ 12) → number_in (code_of w ∷ ds) ≡ then_some (option_eq eq-value.it o (Some w)) z
number_own o w ds z e b i s n =
    let l : mag z < sign_of w = subst (λ y. mag y < sign_of w) (sym i) (residue_back (sign_of w) (unlow ds) (spanned w ds e b)).1 in
    number_wide w ds z e i ∙ unless_not (ltb (mag z) (least_of w)) z ∙ ap (λ t. then_some t z) (sym (own_of o w z l s n))
