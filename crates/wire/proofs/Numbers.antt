-- Numerals, and CR LF behind one.
use Rattle.std.proofs.Common.{◌≡◌, ℕ, zero, suc, ◌+◌, ◌*◌, ◌%◌, ◌^◌, ◌<◌, ◌≤◌, List, [], ◌∷◌, ◌++◌, length, get_or, decimal, sym, refl, ap, ◌∙◌, subst, ⊎_elim, append_assoc, append-nil, arith, length-append}
use Rattle.std.proofs.Math.Arith.{digits_div, digits_mod}
use Rattle.std.specs.Str.Parse.{digits_value_after}
use Rattle.std.specs.Int.{IsInRange}
use Rattle.std.specs.Char.{digit_value as digitValue}
use Rattle.std.proofs.lemmas.Fmt.{decimal_is_IsNumeral, decimal_digit, decimal_step, first_decimal, decimal_nonempty, decimal_injective}
use Rattle.std.proofs.lemmas.List.{append_cancel_left, get_or_at}
use Rattle.std.proofs.lemmas.Str.Parse.{digit_at}
use Rattle.std.proofs.lemmas.Bool.Decides.{nat_tests}
use Rattle.wire.specs.Texts.{Short, Strays}
use Rattle.wire.specs.Steps.{crlf, Stopped, Between, Just, Number, NoDigit, Ends}
use Rattle.wire.specs.declared.stop.Stop.TheVariants.{At}
use Rattle.wire.proofs.Sets.{meet, Back}

after_ge : (n : ℕ) (xs : List ℕ) → n ≤ digits_value_after 10 n xs
after_ge n [] = omega arith
after_ge n (x ∷ xs) = let h = after_ge (n * 10 + digitValue x) xs in omega arith

after_append : (n : ℕ) (xs ys : List ℕ) → digits_value_after 10 n (xs ++ ys) ≡ digits_value_after 10 (digits_value_after 10 n xs) ys
after_append n [] ys = refl
after_append n (x ∷ xs) ys = after_append (n * 10 + digitValue x) xs ys

digit_value : (d : ℕ) → d < 10 → digitValue (48 + d) ≡ d
digit_value d h = grind (arith, nat_tests)

-- what a numeral of more digits is worth
worth : (n m d : ℕ) (r : List ℕ) → n < 2 ^ 64 → m < 2 ^ 64 → d < 10 → decimal m ≡ decimal n ++ ((48 + d) ∷ r) → n * 10 + d ≤ m
worth n m d r hn hm hd e =
    let a : digits_value_after 10 0 (decimal m) ≡ m = (decimal_is_IsNumeral m hm).1 in
    let b : digits_value_after 10 0 (decimal n) ≡ n = (decimal_is_IsNumeral n hn).1 in
    let s : digits_value_after 10 0 (decimal m) ≡ digits_value_after 10 (digits_value_after 10 0 (decimal n)) ((48 + d) ∷ r) = ap (digits_value_after 10 0) e ∙ after_append 0 (decimal n) ((48 + d) ∷ r) in
    let g = after_ge (digits_value_after 10 0 (decimal n) * 10 + digitValue (48 + d)) r in
    omega (arith, digit_value d hd)

decimal_more : (n d : ℕ) → 0 < n → d < 10 → n * 10 + d < 2 ^ 64 → decimal (n * 10 + d) ≡ decimal n ++ ((48 + d) ∷ [])
decimal_more n d hn hd h =
    decimal_step (n * 10 + d) (omega arith) h
    ∙ ap (λ k. decimal k ++ ((48 + (n * 10 + d) % 10) ∷ [])) (digits_div n hd)
    ∙ ap (λ k. decimal n ++ ((48 + k) ∷ [])) (digits_mod n hd)

-- one more digit is read
pub reads_more : (n d : ℕ) (whole here rest : List ℕ) → 0 < n → d < 10 → n * 10 + d < 2 ^ 64 → whole ≡ decimal n ++ here → here ≡ (48 + d) ∷ rest → whole ≡ decimal (n * 10 + d) ++ rest
reads_more n d whole here rest hn hd h e f =
    e ∙ ap (λ l. decimal n ++ l) f ∙ sym (append_assoc (decimal n) ((48 + d) ∷ []) rest) ∙ ap (λ l. l ++ rest) (sym (decimal_more n d hn hd h))

-- each byte of a numeral is a digit
pub inside : (n : ℕ) (xs : List ℕ) (x : ℕ) (ys : List ℕ) → n < 2 ^ 64 → decimal n ≡ xs ++ (x ∷ ys) → IsInRange 48 57 x
inside n xs x ys h e =
    let long : length xs < length (decimal n) = omega (arith, ap length e, length-append xs (x ∷ ys)) in
    let at : get_or (decimal n) (length xs) 0 ≡ x = ap (λ l. get_or l (length xs) 0) e ∙ get_or_at xs x ys 0 (length xs) refl in
    subst (IsInRange 48 57) at (digit_at (decimal n) (length xs) (decimal_is_IsNumeral n h).0.1 long)

-- a numeral and what follows
split_at : (n m c : ℕ) (t r : List ℕ) → n < 2 ^ 64 → m < 2 ^ 64 → (decimal m ++ crlf) ++ t ≡ decimal n ++ (c ∷ r) → ((d : List ℕ) → decimal m ≡ decimal n ++ (c ∷ d) → ⊥) → m ≡ n
split_at n m c t r hn hm e stuck =
    let whole : decimal m ++ (crlf ++ t) ≡ decimal n ++ (c ∷ r) = sym (append_assoc (decimal m) crlf t) ∙ e in
    ⊎_elim
    (λ b. longer b.0 b.1 whole)
    (λ b. shorter b.0 b.1 whole)
    (meet (decimal m) (decimal n) (crlf ++ t) (c ∷ r) whole)
  where
    longer : (x : List ℕ) → decimal n ≡ decimal m ++ x → decimal m ++ (crlf ++ t) ≡ decimal n ++ (c ∷ r) → m ≡ n
    longer [] b w = sym (decimal_injective n m hn hm (b ∙ append-nil (decimal m)))
    longer (x ∷ xs) b w =
        let f : crlf ++ t ≡ (x ∷ xs) ++ (c ∷ r) = append_cancel_left (decimal m) (crlf ++ t) ((x ∷ xs) ++ (c ∷ r)) (w ∙ ap (λ l. l ++ (c ∷ r)) b ∙ append_assoc (decimal m) (x ∷ xs) (c ∷ r)) in
        let same : 13 ≡ x = cc in
        let i = inside n (decimal m) x xs hn b in
        absurd (omega arith)

    shorter : (x : List ℕ) → decimal m ≡ decimal n ++ x → decimal m ++ (crlf ++ t) ≡ decimal n ++ (c ∷ r) → m ≡ n
    shorter [] b w = decimal_injective m n hm hn (b ∙ append-nil (decimal n))
    shorter (x ∷ xs) b w =
        let f : (x ∷ xs) ++ (crlf ++ t) ≡ c ∷ r = append_cancel_left (decimal n) ((x ∷ xs) ++ (crlf ++ t)) (c ∷ r) (sym (append_assoc (decimal n) (x ∷ xs) (crlf ++ t)) ∙ ap (λ l. l ++ (crlf ++ t)) (sym b) ∙ w) in
        let same : x ≡ c = cc in
        absurd (stuck xs (b ∙ ap (λ y. decimal n ++ (y ∷ xs)) same))

-- two numbers, with CR LF, that begin one text are one
pub number_free : (n m : ℕ) (r t : List ℕ) → n < 2 ^ 64 → m < 2 ^ 64 → (decimal m ++ crlf) ++ t ≡ (decimal n ++ crlf) ++ r → m ≡ n
number_free n m r t hn hm e =
    split_at n m 13 t (10 ∷ r) hn hm (e ∙ append_assoc (decimal n) crlf r) (λ d x. let i = inside m (decimal n) 13 d hm x in omega arith)

-- where a numeral ends
pub ends_no_digit : (high n : ℕ) (s : List ℕ) → high < 2 ^ 64 → NoDigit s → Ends high n s
ends_no_digit high n s hh none c r is m hm d e = let i = inside m (decimal n) c d (omega arith) e in none c r is i.0 i.1

not_zero_first : (m : ℕ) (t : List ℕ) → 0 < m → m < 2 ^ 64 → decimal m ≡ 48 ∷ t → ⊥
not_zero_first m t some h e = let f = first_decimal m some h in let z : get_or (decimal m) 0 0 ≡ 48 = ap (λ l. get_or l 0 0) e in omega arith

ends_at_zero : (high : ℕ) (s : List ℕ) → high < 2 ^ 64 → Ends high 0 s
ends_at_zero high s hh c r is zero hm d e =
    let z : ◌≡◌ {A = ℕ} 1 (suc (suc (length d))) = ap length (sym (decimal_digit 0 (omega arith)) ∙ e ∙ ap (λ l. l ++ (c ∷ d)) (decimal_digit 0 (omega arith))) in absurd (omega arith)
ends_at_zero high s hh c r is (suc m) hm d e = not_zero_first (suc m) (c ∷ d) (omega arith) (omega arith) (e ∙ ap (λ l. l ++ (c ∷ d)) (decimal_digit 0 (omega arith)))

pub ends_zero : (high n : ℕ) (s : List ℕ) → high < 2 ^ 64 → n ≡ 0 → Ends high n s
ends_zero high n s hh z = subst (λ k. Ends high k s) (sym z) (ends_at_zero high s hh)

pub ends_high : (high n d : ℕ) (s x : List ℕ) → high < 2 ^ 64 → n ≤ high → d < 10 → high < n * 10 + d → s ≡ (48 + d) ∷ x → Ends high n s
ends_high high n d s x hh hn hd past first c r is m hm y e =
    let at : (48 + d) ∷ x ≡ c ∷ r = sym first ∙ is in
    let same : 48 + d ≡ c = cc in
    let w = worth n m d y (omega arith) (omega arith) hd (e ∙ ap (λ k. decimal n ++ (k ∷ y)) (sym same)) in
    omega arith

-- how a number goes wrong before its first digit
pub begin : (low high : ℕ) → low ≤ 1 → 9 ≤ high → Number low high (49 ∷ crlf)
begin low high hl hh = (1, (omega arith, omega arith), ap (λ l. l ++ crlf) (sym (decimal_digit 1 (omega arith))))

pub number_short : (low high : ℕ) (s : List ℕ) → low ≤ 1 → 9 ≤ high → s ≡ [] → Short (Number low high) s
number_short low high s hl hh h =
    record { word = 49 ∷ crlf; lawful = begin low high hl hh; next = 49; rest = crlf; split = ap (λ l. l ++ (49 ∷ crlf)) (sym h) }

-- the first byte of a numeral's line is the numeral's
lead : (ds : List ℕ) (c : ℕ) (t t' : List ℕ) → 0 < length ds → (ds ++ crlf) ++ t ≡ c ∷ t' → (r : List ℕ) × (ds ≡ c ∷ r)
lead [] c t t' h e = absurd (omega arith)
lead (d ∷ ds) c t t' h e = let same : d ≡ c = cc in (ds, ap (λ k. k ∷ ds) same)

-- a number with CR LF begins with a digit
pub leads_digit : (n c : ℕ) (t t' : List ℕ) → n < 2 ^ 64 → (decimal n ++ crlf) ++ t ≡ c ∷ t' → IsInRange 48 57 c
leads_digit n c t t' h e = let f = lead (decimal n) c t t' (decimal_nonempty n h) e in inside n [] c f.0 h f.1

first_strays : (low high c : ℕ) (r : List ℕ) → low ≤ 1 → 9 ≤ high → high < 2 ^ 64 → ((m : ℕ) (ds : List ℕ) → Between low high m → decimal m ≡ c ∷ ds → ⊥) → Strays (Number low high) (c ∷ r) 0
first_strays low high c r hl hh hm none =
    record {
      word = 49 ∷ crlf;
      lawful = begin low high hl hh;
      begins = (49 ∷ crlf, refl);
      leaves = λ w l b.
          let m = l.0 in
          let f = lead (decimal m) c [] b.0 (decimal_nonempty m (omega arith)) (append-nil _ ∙ sym l.2 ∙ b.1) in
          none m f.0 l.1 f.1;
      open_ended = λ w l b.
          let m = l.0 in
          let f = lead (decimal m) c b.0 r (decimal_nonempty m (omega arith)) (ap (λ x. x ++ b.0) (sym l.2) ∙ sym b.1) in
          none m f.0 l.1 f.1;
    }

pub number_strays : (low high : ℕ) (s : List ℕ) → low ≤ 1 → 9 ≤ high → high < 2 ^ 64 → 0 < length s → NoDigit s → Stopped (Number low high) s (At (length s))
number_strays low high [] hl hh hm some none = absurd (omega arith)
number_strays low high (c ∷ r) hl hh hm some none =
    (0, omega arith, first_strays low high c r hl hh hm (λ m ds b d. let j = inside m [] c ds (omega arith) d in none _ _ refl j.0 j.1))

pub zero_strays : (low high : ℕ) (x : List ℕ) → low ≤ 1 → 9 ≤ high → high < 2 ^ 64 → 0 < low → Strays (Number low high) (48 ∷ x) 0
zero_strays low high x hl hh hm some = first_strays low high 48 x hl hh hm (λ m ds b f. not_zero_first m ds (omega arith) (omega arith) f)

pub number_zero : (low high : ℕ) (s x : List ℕ) (d : ℕ) → low ≤ 1 → 9 ≤ high → high < 2 ^ 64 → d < low → s ≡ (48 + d) ∷ x → Stopped (Number low high) s (At (length s))
number_zero low high s x d hl hh hm some e =
    let zero_is : 48 + d ≡ 48 = omega arith in (
      0,
      omega arith,
      subst (λ s. Strays (Number low high) s 0) (sym (e ∙ ap (λ k. k ∷ x) zero_is)) (zero_strays low high x hl hh hm (omega arith)),
    )

-- CR LF behind a numeral
pub back_number : (low high n : ℕ) (s : List ℕ) → high < 2 ^ 64 → Between low high n → Ends high n s → Back (Number low high) (Just crlf) (decimal n) s
back_number low high n s hh b ends =
    record {
      joins = λ v e. (n, b, ap (λ x. decimal n ++ x) e);
      leads = λ c r is w t r' l e.
          let m = l.0 in
          let rest : (decimal m ++ crlf) ++ t ≡ decimal n ++ (c ∷ r') = ap (λ x. x ++ t) (sym l.2) ∙ e in
          let same = split_at n m c t r' (omega arith) (omega arith) rest (λ d f. ends c r is m l.1.1 d f) in
          (crlf, refl, l.2 ∙ ap (λ k. decimal k ++ crlf) same);
    }
