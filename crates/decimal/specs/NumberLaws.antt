-- A text is a number's just where std writes it so: the laws of `Decimal` at u64 and i64. Nothing here needs to be believed.
use Rattle.std.proofs.Common.{◌≡◌, ℕ, zero, suc, ◌^◌, ◌<◌, ◌≤◌, Bool, true, false, cond, ◌&&◌, eqb, ltb, leb, List, [], ◌∷◌, length, drop, get_or, ℤ, pos, negsuc, neg_ℤ, Some, None, decimal, Option, Ok, Result, IsUtf8, sym, refl, ap, ◌∙◌, subst, arith, w64, SFits}
use Rattle.std.specs.Str.Parse.{digits_value, signed_digits_value, without_leading_plus, without_leading_sign, AllDigits, IsNumeral, ParsesUnsigned, ParsesSigned}
use Rattle.std.specs.Int.Signed.{mag}
use Rattle.std.specs.Fmt.{signed_decimal}
use Rattle.std.specs.Str.{all_ascii_digits}
use Rattle.std.proofs.lemmas.Str.Parse.{IsNumeralModel, numerals_by_value, tells_all_ascii_digits, tells_digits}
use Rattle.std.proofs.lemmas.Fmt.{digits_decimal, digits_value-decimal, decimal_nonempty, first_decimal, decimal-digits_value, decimal_digit, length-decimal-le, parse-decimal, parse-signed_decimal, IsAscii-decimal, IsAscii-signed}
use Rattle.std.proofs.lemmas.Str.{IsUtf8-from_ascii}
use Rattle.std.proofs.lemmas.Option.{cond_some}
use Rattle.std.proofs.lemmas.Bool.{and_parts, eqb-true, ltb-true, lt-ltb, ne_eqb, cond-true, cond-false}
use Rattle.std.proofs.lemmas.Bool.Decides.{nat_tests}
use Rattle.decimal.specs.Integer.{longest_text, plain, Numberlike, number, natural, above, below, integer}

pub own : IsNumeralModel (λ ds. all_ascii_digits ds ≡ true) (digits_value 10)
own = numerals_by_value _ tells_all_ascii_digits

plain_decimal : (n : ℕ) → n < 2 ^ 64 → plain (decimal n) ≡ true
plain_decimal zero h = rw (decimal_digit 0 (omega arith))
plain_decimal (suc n) h = let s = decimal_nonempty (suc n) h in let f = first_decimal (suc n) (omega arith) h in grind (arith, nat_tests)

pub writes_natural : (n : ℕ) → n < 2 ^ 64 → natural (decimal n) ≡ Some n
writes_natural n h =
    let p = plain_decimal n h in
    let d = digits_decimal own n h in
    let v = digits_value-decimal own n h in
    let l : digits_value 10 (decimal n) < 2 ^ 64 = omega arith in
    let e : natural (decimal n) ≡ Some (digits_value 10 (decimal n)) = grind (arith, nat_tests) in
    e ∙ ap Some v

-- a chosen one, where it is some
pub kept : {X : Type 0} (b : Bool) (o : Option X) (z : X) → cond b o None ≡ Some z → (b ≡ true) × (o ≡ Some z)
kept true o z e = (refl, e)
kept false o z e = let bad : ◌≡◌ {A = ℕ} 0 1 = cc in absurd (omega arith)

pub reads_natural : (t : List ℕ) (n : ℕ) → natural t ≡ Some n → (t ≡ decimal n) × (n < 2 ^ 64)
reads_natural t n e =
    let k = kept (plain t) (number t) n e in
    let q = cond_some (all_ascii_digits t && ltb (digits_value 10 t) (2 ^ 64)) (digits_value 10 t) n k.1 in
    let p = k.0 in
    let b = q.0 in
    let l : digits_value 10 t < 2 ^ 64 = grind (arith, nat_tests) in
    let s : 0 < length t = grind (arith, nat_tests) in
    let z : get_or t 0 0 ≡ 48 → length t ≡ 1 = λ f. grind (arith, nat_tests) in
    (sym (decimal-digits_value own t (and_parts _ _ b).0 s z l) ∙ ap decimal q.1, omega (arith, q.1))

-- digits begin with no sign
pub first_digit : (t : List ℕ) → all_ascii_digits t ≡ true → 0 < length t → 48 ≤ get_or t 0 0
first_digit [] d l = absurd (omega arith)
first_digit (c ∷ cs) d l = grind (arith, nat_tests)

writes_plus : (n : ℕ) → n < 2 ^ 63 → integer (decimal n) ≡ Some (pos n)
writes_plus n h =
    let f = first_digit (decimal n) (digits_decimal own n (omega arith)) (decimal_nonempty n (omega arith)) in
    cond-false (eqb (get_or (decimal n) 0 0) 45) _ _ (ne_eqb _ _ (λ e. omega arith)) ∙ ap above (writes_natural n (omega arith)) ∙ cond-true (ltb n (2 ^ 63)) _ _ (lt-ltb _ _ h)

pub writes : (z : ℤ) → SFits w64 z → integer (signed_decimal z) ≡ Some z
writes (pos n) f = writes_plus n (omega arith)
writes (negsuc n) f = ap below (writes_natural (suc n) (omega arith)) ∙ cond-true (ltb 0 (suc n) && leb (suc n) (2 ^ 63)) _ _ (grind (arith, nat_tests))

reads_plus : (o : Option ℕ) (t : List ℕ) (z : ℤ) → natural t ≡ o → above o ≡ Some z → (t ≡ signed_decimal z) × SFits w64 z
reads_plus None t z n e = let bad : ◌≡◌ {A = ℕ} 0 1 = cc in absurd (omega arith)
reads_plus (Some m) t z n e =
    let q = cond_some (ltb m (2 ^ 63)) (pos m) z e in
    ((reads_natural t m n).0 ∙ ap signed_decimal q.1, subst (SFits w64) q.1 (record { sfits = ltb-true _ _ q.0 }))

small : (z : ℤ) → SFits w64 z → mag z < 2 ^ 63
small (pos n) f = omega arith
small (negsuc n) f = omega arith

below_zero : (n : ℕ) → 0 < n → n ≤ 2 ^ 63 → (signed_decimal (neg_ℤ (pos n)) ≡ 45 ∷ decimal n) × SFits w64 (neg_ℤ (pos n))
below_zero zero p h = absurd (omega arith)
below_zero (suc n) p h = (refl, record { sfits = omega arith })

reads_minus : (o : Option ℕ) (t : List ℕ) (z : ℤ) → natural t ≡ o → below o ≡ Some z → (45 ∷ t ≡ signed_decimal z) × SFits w64 z
reads_minus None t z n e = let bad : ◌≡◌ {A = ℕ} 0 1 = cc in absurd (omega arith)
reads_minus (Some m) t z n e =
    let q = cond_some (ltb 0 m && leb m (2 ^ 63)) (neg_ℤ (pos m)) z e in
    let w = q.0 in
    let v : (0 < m) × (m ≤ 2 ^ 63) = grind (arith, nat_tests) in
    let b = below_zero m v.0 v.1 in
    (ap (λ ds. 45 ∷ ds) (reads_natural t m n).0 ∙ sym b.0 ∙ ap signed_decimal q.1, subst (SFits w64) q.1 b.1)

reads_case : (b : Bool) (c : ℕ) (cs : List ℕ) (z : ℤ) → (b ≡ true → c ≡ 45) → cond b (below (natural cs)) (above (natural (c ∷ cs))) ≡ Some z → (c ∷ cs ≡ signed_decimal z) × SFits w64 z
reads_case true c cs z h e = let r = reads_minus (natural cs) cs z refl e in (ap (λ x. x ∷ cs) (h refl) ∙ r.0, r.1)
reads_case false c cs z h e = reads_plus (natural (c ∷ cs)) (c ∷ cs) z refl e

pub reads : (t : List ℕ) (z : ℤ) → integer t ≡ Some z → (t ≡ signed_decimal z) × SFits w64 z
reads [] z e = let bad : ◌≡◌ {A = ℕ} 0 1 = cc in absurd (omega arith)
reads (c ∷ cs) z e = reads_case (eqb c 45) c cs z (eqb-true c 45) e

-- ---- what std parses of a text

pub parses : {E : Type 0} (z : ℤ) (r : Result ℤ E) → SFits w64 z → ParsesSigned w64 10 (signed_decimal z) r → r ≡ Ok z
parses z r f p = parse-signed_decimal w64 z (signed_decimal z) r f (small z f) refl p

pub parses_natural : {E : Type 0} (n : ℕ) (r : Result ℕ E) → n < 2 ^ 64 → ParsesUnsigned 64 10 (decimal n) r → r ≡ Ok n
parses_natural n r f p = parse-decimal 64 n (decimal n) r f f refl p

-- what is parsed is in range, in the form that the clause of `parse` computes to
pub parsed : (P : Type 0) (y z : ℤ) → (P × SFits w64 y) × (z ≡ y) → SFits w64 z
parsed P y z p = subst (SFits w64) (sym p.1) p.0.1

pub parsed_natural : (P : Type 0) (m n : ℕ) → (P × (m < 2 ^ 64)) × (n ≡ m) → n < 2 ^ 64
parsed_natural P m n p = omega (arith, p.0.1, p.1)

pub is_text : (z : ℤ) → SFits w64 z → IsUtf8 (signed_decimal z)
is_text z f = IsUtf8-from_ascii (signed_decimal z) (IsAscii-signed z (small z f))

pub is_natural_text : (n : ℕ) → n < 2 ^ 64 → IsUtf8 (decimal n)
is_natural_text n f = IsUtf8-from_ascii (decimal n) (IsAscii-decimal n f)

-- the most bytes of a text, by std
pub is_short : 20 ≤ longest_text
is_short = omega arith

-- ---- what the text of a number looks like

pub is_numberlike_natural : (n : ℕ) → n < 2 ^ 64 → Numberlike (decimal n)
is_numberlike_natural zero h = subst Numberlike (sym (decimal_digit 0 (omega arith))) (omega arith, λ e. omega (arith, e), λ e. refl, λ e. omega (arith, e))
is_numberlike_natural (suc n) h =
    let f = first_decimal (suc n) (omega arith) h in
    (length-decimal-le 20 (suc n) (omega arith) (omega arith) (omega arith), λ e. omega (arith, f, e), λ e. omega (arith, f, e), λ e. absurd (omega (arith, f, e)))

pub is_numberlike : (z : ℤ) → SFits w64 z → Numberlike (signed_decimal z)
is_numberlike (pos n) f = is_numberlike_natural n (omega arith)
is_numberlike (negsuc n) f =
    let h : suc n < 2 ^ 64 = omega arith in
    let g = first_decimal (suc n) (omega arith) h in
    (omega (arith, length-decimal-le 19 (suc n) (omega arith) (omega arith) (omega arith)), λ e. omega (arith, e), λ e. omega (arith, e), λ e d. omega (arith, g, d))

-- ---- of what looks like a number, its text alone is parsed as it

digits_own : IsNumeralModel (AllDigits 10) (digits_value 10)
digits_own = numerals_by_value _ tells_digits

no_plus : (t : List ℕ) → (get_or t 0 0 ≡ 43 → ⊥) → without_leading_plus t ≡ t
no_plus t h = ap (λ b. drop (cond b 1 0) t) (ne_eqb _ _ h)

its_digits : (t : List ℕ) (m : ℕ) → (get_or t 0 0 ≡ 48 → length t ≡ 1) → (IsNumeral 10 t) × (digits_value 10 t < 2 ^ 64) → m ≡ digits_value 10 t → t ≡ decimal m
its_digits t m l p e = sym (decimal-digits_value digits_own t p.0.1 p.0.0 l p.1) ∙ ap decimal (sym e)

pub is_natural_parsed : (t : List ℕ) (n : ℕ) → Numberlike t → (IsNumeral 10 (without_leading_plus t) × (digits_value 10 (without_leading_plus t) < 2 ^ 64)) × (n ≡ digits_value 10 (without_leading_plus t)) → t ≡ decimal n
is_natural_parsed t n l p =
    let q = subst (λ ds. (IsNumeral 10 ds × (digits_value 10 ds < 2 ^ 64)) × (n ≡ digits_value 10 ds)) (no_plus t l.1) p in
    its_digits t n l.2 q.0 q.1

below_fits : (m : ℕ) → SFits w64 (neg_ℤ (pos m)) → m ≤ 2 ^ 63
below_fits zero f = omega arith
below_fits (suc k) f = omega arith

-- digits that do not begin with a zero write no zero
some_value : (t : List ℕ) (m : ℕ) → (get_or t 0 0 ≡ 48 → ⊥) → t ≡ decimal m → 0 < m
some_value t zero h e = absurd (h (ap (λ ds. get_or ds 0 0) (e ∙ decimal_digit 0 (omega arith))))
some_value t (suc m) h e = omega arith

its_minus : (c : ℕ) (cs : List ℕ) (z : ℤ) → c ≡ 45 → (get_or cs 0 0 ≡ 48 → ⊥) → (IsNumeral 10 cs × SFits w64 (neg_ℤ (pos (digits_value 10 cs)))) × (z ≡ neg_ℤ (pos (digits_value 10 cs))) → c ∷ cs ≡ signed_decimal z
its_minus c cs z e h p =
    let m = digits_value 10 cs in
    let f = below_fits m p.0.1 in
    let d = its_digits cs m (λ k. absurd (h k)) (p.0.0, omega (arith, f)) refl in
    ap (λ x. x ∷ cs) e ∙ ap (λ ds. 45 ∷ ds) d ∙ sym (below_zero m (some_value cs m h d) f).0 ∙ ap signed_decimal (sym p.1)

its_plus : (t : List ℕ) (z : ℤ) → Numberlike t → (IsNumeral 10 (without_leading_plus t) × SFits w64 (pos (digits_value 10 (without_leading_plus t)))) × (z ≡ pos (digits_value 10 (without_leading_plus t))) → t ≡ signed_decimal z
its_plus t z l p =
    let q = subst (λ ds. (IsNumeral 10 ds × SFits w64 (pos (digits_value 10 ds))) × (z ≡ pos (digits_value 10 ds))) (no_plus t l.1) p in
    let m = digits_value 10 t in
    let s : m < 2 ^ 64 = omega (arith, q.0.1.sfits) in
    its_digits t m l.2 (q.0.0, s) refl ∙ ap signed_decimal (sym q.1)

its_case : (b : Bool) (c : ℕ) (cs : List ℕ) (z : ℤ) → (b ≡ true → c ≡ 45) → Numberlike (c ∷ cs)
    → (IsNumeral 10 (cond b cs (without_leading_plus (c ∷ cs))) × SFits w64 (cond b (neg_ℤ (pos (digits_value 10 (cond b cs (without_leading_plus (c ∷ cs)))))) (pos (digits_value 10 (cond b cs (without_leading_plus (c ∷ cs)))))))
    × (z ≡ cond b (neg_ℤ (pos (digits_value 10 (cond b cs (without_leading_plus (c ∷ cs)))))) (pos (digits_value 10 (cond b cs (without_leading_plus (c ∷ cs))))))
    → c ∷ cs ≡ signed_decimal z
its_case true c cs z h l p = its_minus c cs z (h refl) (l.3 (h refl)) p
its_case false c cs z h l p = its_plus (c ∷ cs) z l p

pub is_parsed : (t : List ℕ) (z : ℤ) → Numberlike t → (IsNumeral 10 (without_leading_sign t) × SFits w64 (signed_digits_value 10 t)) × (z ≡ signed_digits_value 10 t) → t ≡ signed_decimal z
is_parsed [] z l p = absurd (omega (arith, p.0.0.0))
is_parsed (c ∷ cs) z l p = its_case (eqb c 45) c cs z (eqb-true c 45) l p
