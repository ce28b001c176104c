-- The six forms of an integer and the two of a text: what is read of each, and that nothing else is read.
use Rattle.std.proofs.Common.{◌≡◌, ℕ, suc, ◌+◌, ◌-◌, ◌*◌, ◌/◌, ◌%◌, ◌^◌, ◌<◌, ◌≤◌, Bool, true, false, ◌&&◌, eqb, ltb, leb, List, [], ◌∷◌, length, get_or, drop, ℤ, pos, negsuc, Some, None, Option, sym, refl, ap, ◌∙◌, subst, true≢false, arith, w64, SFits}
use Rattle.std.specs.Int.Signed.{mag}
use Rattle.std.proofs.lemmas.Bool.Decides.{nat_tests}
use Rattle.std.proofs.lemmas.Option.{cond_some}
use Rattle.std.proofs.lemmas.Bool.{leb-true, leb-false, le-leb, lt-leb, cond_both, cond-true, cond-false, ltb-true, ltb-false, eqb-true, lt-ltb, le-ltb}
use Rattle.decimal.specs.NumberLaws.{kept}
use Rattle.store.specs.Limits.{longest_value}
use Rattle.entry.specs.Entry.{residue, low, fits, tiny, thirteen, wide, number, text}
use Rattle.entry.specs.declared.Width.{Width}
use Rattle.entry.specs.declared.Width.TheVariants.{Bits16, Bits24, Bits32, Bits64}
use Rattle.entry.specs.Widths.{code_of, size_of, least_of, sign_of, takes}
use Rattle.entry.specs.Reading.{unlow, back, unless, tiny_in, thirteen_in, wide_in, number_in, text_in}
use Rattle.entry.proofs.Bytes.{back_residue, residue_back, residue_lt, length_low, unlow_low, low_unlow}
use Rattle.entry.proofs.Widths.{signed, within, is_wide, taken_by, spanned, number_wide}

-- ---- which form an integer takes

is_tiny : (n : ℕ) → n < 128 → number (pos n) ≡ n ∷ []
is_tiny n h = cond-true (ltb n 128) _ _ (lt-ltb _ _ h)

is_thirteen : (z : ℤ) → tiny z ≡ false → mag z < 2 ^ 12 → number z ≡ thirteen z
is_thirteen z t h = cond-false (tiny z) _ _ t ∙ cond-true (fits 12 z) _ _ (lt-ltb _ _ h)

-- what holds of each form, where it is taken, holds of the integer's own
pub number_cases : (P : List ℕ → Type 0) (z : ℤ) → SFits w64 z
    → ((n : ℕ) → z ≡ pos n → n < 128 → P (n ∷ []))
    → (tiny z ≡ false → mag z < 2 ^ 12 → P (thirteen z))
    → ((w : Width) → takes w z ≡ true → P (wide (code_of w) (size_of w) z))
    → P (number z)
number_cases P z f a b c = go (tiny z) (fits 12 z) refl refl
  where
    small : (z : ℤ) → ((n : ℕ) → z ≡ pos n → n < 128 → P (n ∷ [])) → tiny z ≡ true → P (number z)
    small (pos n) a t = let h = ltb-true n 128 t in subst P (sym (is_tiny n h)) (a n refl h)
    small (negsuc n) a t = absurd (true≢false (sym t))

    go : (s t : Bool) → tiny z ≡ s → fits 12 z ≡ t → P (number z)
    go true t e g = small z a e
    go false true e g = let h = ltb-true _ _ g in subst P (sym (is_thirteen z e h)) (b e h)
    go false false e g = let o = taken_by z (ltb-false _ _ g) f.sfits in subst P (sym (is_wide o.0 z o.1)) (c o.0 o.1)

-- ---- an integer is read from its form

wide_back : (w : Width) (z : ℤ) → takes w z ≡ true → number_in (wide (code_of w) (size_of w) z) ≡ Some z
wide_back w z t =
    let k = within w z t in
    let u = residue (256 ^ size_of w) z in
    let b : back (sign_of w) (unlow (low (size_of w) u)) ≡ z = ap (back (sign_of w)) (unlow_low (size_of w) u (residue_lt (256 ^ size_of w) z (omega (arith, signed w))) ∙ ap (λ m. residue m z) (sym (signed w))) ∙ back_residue (sign_of w) z k.2 in
    number_wide w (low (size_of w) u) z (length_low (size_of w) u) (sym b) ∙ cond-false (ltb (mag z) (least_of w)) _ _ (le-ltb _ _ k.1)

thirteen_back : (z : ℤ) → tiny z ≡ false → mag z < 2 ^ 12 → number_in (thirteen z) ≡ Some z
thirteen_back z t h =
    let l = residue_lt (2 ^ 13) z (omega arith) in
    let e : (192 + residue (2 ^ 13) z / 256 - 192) * 256 + residue (2 ^ 13) z % 256 ≡ residue (2 ^ 13) z = omega arith in
    let b : back (2 ^ 12) ((192 + residue (2 ^ 13) z / 256 - 192) * 256 + residue (2 ^ 13) z % 256) ≡ z = ap (back (2 ^ 12)) e ∙ back_residue (2 ^ 12) z h in
    let w : leb 192 (192 + residue (2 ^ 13) z / 256) && ltb (192 + residue (2 ^ 13) z / 256) 224 ≡ true = grind (arith, nat_tests) in
    cond-true (leb 192 (192 + residue (2 ^ 13) z / 256) && ltb (192 + residue (2 ^ 13) z / 256) 224) _ _ w
    ∙ ap (λ y. unless (tiny y) y) b ∙ cond-false (tiny z) _ _ t

pub number_back : (z : ℤ) → SFits w64 z → number_in (number z) ≡ Some z
number_back z f = number_cases (λ bs. number_in bs ≡ Some z) z f
    (λ n e h. cond-true (ltb n 128) _ _ (lt-ltb _ _ h) ∙ ap Some (sym e))
    (λ t h. thirteen_back z t h)
    (λ w t. wide_back w z t)

-- ---- what is read has that form

left : (b : Bool) (x z : ℤ) → unless b x ≡ Some z → (b ≡ false) × (x ≡ z)
left true x z e = let bad : ◌≡◌ {A = ℕ} 0 1 = cc in absurd (omega arith)
left false x z e = (refl, cc)

tiny_forth : (bs : List ℕ) (z : ℤ) → length bs ≡ 1 → tiny_in (get_or bs 0 0) ≡ Some z → (bs ≡ number z) × SFits w64 z
tiny_forth [] z l e = absurd (omega arith)
tiny_forth (b ∷ c ∷ bs) z l e = absurd (omega arith)
tiny_forth (b ∷ []) z l e =
    let q = cond_some (ltb b 128) (pos b) z e in
    let h = ltb-true b 128 q.0 in
    (sym (is_tiny b h) ∙ ap number q.1, subst (SFits w64) q.1 (record { sfits = omega arith }))

thirteen_forth : (bs : List ℕ) (z : ℤ) → length bs ≡ 2 → get_or bs 1 0 < 256 → thirteen_in (get_or bs 0 0) (get_or bs 1 0) ≡ Some z → (bs ≡ number z) × SFits w64 z
thirteen_forth [] z l h e = absurd (omega arith)
thirteen_forth (b ∷ []) z l h e = absurd (omega arith)
thirteen_forth (b ∷ c ∷ x ∷ bs) z l h e = absurd (omega arith)
thirteen_forth (b ∷ c ∷ []) z l h e =
    let u = (b - 192) * 256 + c in
    let k = kept (leb 192 b && ltb b 224) _ z e in
    let i = k.0 in
    let m : (192 ≤ b) × (b < 224) = grind (arith, nat_tests) in
    let q = left (tiny (back (2 ^ 12) u)) (back (2 ^ 12) u) z k.1 in
    let r = residue_back (2 ^ 12) u (omega arith) in
    let o : residue (2 ^ 13) z ≡ u = ap (residue (2 ^ 13)) (sym q.1) ∙ r.0 in
    let w : mag z < 2 ^ 12 = subst (λ y. mag y < 2 ^ 12) q.1 r.1 in
    let f : b ≡ 192 + residue (2 ^ 13) z / 256 = omega arith in
    let g : c ≡ residue (2 ^ 13) z % 256 = omega arith in
    (ap (λ x. x ∷ c ∷ []) f ∙ ap (λ y. (192 + residue (2 ^ 13) z / 256) ∷ y ∷ []) g ∙ sym (is_thirteen z (ap tiny (sym q.1) ∙ q.0) w), record { sfits = omega arith })

wide_forth : (w : Width) (bs : List ℕ) (z : ℤ) → length bs ≡ size_of w + 1 → ((i : ℕ) → get_or bs i 0 < 256) → wide_in (code_of w) (sign_of w) (least_of w) bs ≡ Some z → (bs ≡ number z) × SFits w64 z
wide_forth w [] z l h e = absurd (omega arith)
wide_forth w (b ∷ bs) z l h e =
    let n = size_of w in
    let u = unlow bs in
    let k = kept (eqb b (code_of w)) _ z e in
    let q = left (ltb (mag (back (sign_of w) u)) (least_of w)) (back (sign_of w) u) z k.1 in
    let m : length bs ≡ n = omega arith in
    let r = residue_back (sign_of w) u (spanned w bs m (λ i. h (suc i))) in
    let i : residue (256 ^ n) z ≡ u = ap (λ j. residue j z) (sym (signed w)) ∙ ap (residue (2 * sign_of w)) (sym q.1) ∙ r.0 in
    let a : least_of w ≤ mag z = subst (λ y. least_of w ≤ mag y) q.1 (ltb-false _ _ q.0) in
    let c : mag z < sign_of w = subst (λ y. mag y < sign_of w) q.1 r.1 in
    let t : takes w z ≡ true = grind (arith, nat_tests) in
    (ap (λ x. x ∷ bs) (eqb-true b (code_of w) k.0) ∙ ap (λ xs. code_of w ∷ xs) (sym (ap (low n) i ∙ low_unlow n bs m (λ j. h (suc j)))) ∙ sym (is_wide w z t), record { sfits = omega (arith, (within w z t).3) })

abbrev Formed : List ℕ → ℤ → Option ℤ → Type 0
Formed bs z o = o ≡ Some z → (bs ≡ number z) × SFits w64 z

pub number_forth : (bs : List ℕ) (z : ℤ) → ((i : ℕ) → get_or bs i 0 < 256) → number_in bs ≡ Some z → (bs ≡ number z) × SFits w64 z
number_forth bs z h =
    cond_both (eqb (length bs) 1) _ _ (Formed bs z) (λ l e. tiny_forth bs z (eqb-true _ _ l) e)
    (λ _. cond_both (eqb (length bs) 2) _ _ (Formed bs z) (λ l e. thirteen_forth bs z (eqb-true _ _ l) (h 1) e)
    (λ _. cond_both (eqb (length bs) 3) _ _ (Formed bs z) (λ l e. wide_forth Bits16 bs z (eqb-true _ _ l) h e)
    (λ _. cond_both (eqb (length bs) 4) _ _ (Formed bs z) (λ l e. wide_forth Bits24 bs z (eqb-true _ _ l) h e)
    (λ _. cond_both (eqb (length bs) 5) _ _ (Formed bs z) (λ l e. wide_forth Bits32 bs z (eqb-true _ _ l) h e)
    (λ _. cond_both (eqb (length bs) 9) _ _ (Formed bs z) (λ l e. wide_forth Bits64 bs z (eqb-true _ _ l) h e)
    (λ _ e. let bad : ◌≡◌ {A = ℕ} 0 1 = cc in absurd (omega arith)))))))

-- ---- texts

no_number : (bs : List ℕ) → 128 ≤ get_or bs 0 0 → (192 ≤ get_or bs 0 0 → get_or bs 0 0 < 224 → ⊥) → get_or bs 0 0 < 241 → number_in bs ≡ None
no_number bs a b c = grind (arith, nat_tests)

-- how a text is found
pub record Found (v bs : List ℕ) : Type 0 where
  pub place : ℕ
  pub none : number_in bs ≡ None
  pub some : text_in bs ≡ Some place
  pub here : drop place bs ≡ v

pub text_back : (v : List ℕ) → length v ≤ 64 → Found v (text v)
text_back v h = cond_both (leb (length v) 63) _ _ (Found v)
    (λ e. let l : length v ≤ 63 = leb-true _ _ e in record {
      place = 1;
      none = no_number ((128 + length v) ∷ v) (omega arith) (λ a c. omega arith) (omega arith);
      some = cond-true (leb 128 (128 + length v) && (ltb (128 + length v) 192 && eqb (suc (length v)) (128 + length v - 128 + 1))) _ _ (grind (arith, nat_tests));
      here = refl;
    })
    (λ e. let l : 63 < length v = leb-false _ _ e in record {
      place = 2;
      none = no_number ((224 + length v / 256) ∷ (length v % 256) ∷ v) (omega arith) (λ a c. omega arith) (omega arith);
      some = let m : length v ≡ 64 = omega arith in rw m (grind (arith, nat_tests));
      here = refl;
    })

text_short : (bs : List ℕ) → 128 ≤ get_or bs 0 0 → get_or bs 0 0 < 192 → length bs ≡ get_or bs 0 0 - 128 + 1 → (bs ≡ text (drop 1 bs)) × (length (drop 1 bs) ≤ 64)
text_short [] a b l = absurd (omega arith)
text_short (b ∷ v) a c l =
    let e : 128 + length v ≡ b = omega arith in
    (ap (λ x. x ∷ v) (sym e) ∙ sym (cond-true (leb (length v) 63) _ _ (le-leb _ _ (omega arith))), omega arith)

text_long : (bs : List ℕ) → get_or bs 0 0 ≡ 224 → get_or bs 1 0 ≡ 64 → length bs ≡ get_or bs 1 0 + 2 → (bs ≡ text (drop 2 bs)) × (length (drop 2 bs) ≤ 64)
text_long [] a b l = absurd (omega arith)
text_long (b ∷ []) a c l = absurd (omega arith)
text_long (b ∷ c ∷ v) a n l =
    let e : 224 + length v / 256 ≡ b = omega arith in
    let f : length v % 256 ≡ c = omega arith in
    (ap (λ x. x ∷ c ∷ v) (sym e) ∙ ap (λ y. (224 + length v / 256) ∷ y ∷ v) (sym f) ∙ sym (cond-false (leb (length v) 63) _ _ (lt-leb _ _ (omega arith))), omega arith)

abbrev Texted : List ℕ → ℕ → Option ℕ → Type 0
Texted bs p o = o ≡ Some p → (bs ≡ text (drop p bs)) × (length (drop p bs) ≤ 64)

pub text_forth : (bs : List ℕ) (p : ℕ) → text_in bs ≡ Some p → (bs ≡ text (drop p bs)) × (length (drop p bs) ≤ 64)
text_forth bs p =
    cond_both (leb 128 (get_or bs 0 0) && (ltb (get_or bs 0 0) 192 && eqb (length bs) (get_or bs 0 0 - 128 + 1))) _ _ (Texted bs p)
    (λ t e. let h : (128 ≤ get_or bs 0 0) × (get_or bs 0 0 < 192) × (length bs ≡ get_or bs 0 0 - 128 + 1) = grind (arith, nat_tests) in
    let q : 1 ≡ p = cc in
    subst (λ k. (bs ≡ text (drop k bs)) × (length (drop k bs) ≤ 64)) q (text_short bs h.0 h.1 h.2))
    (λ _. cond_both (eqb (get_or bs 0 0) 224 && (ltb 63 (get_or bs 1 0) && (leb (get_or bs 1 0) longest_value && eqb (length bs) (get_or bs 1 0 + 2)))) _ _ (Texted bs p)
    (λ t e. let h : (get_or bs 0 0 ≡ 224) × (get_or bs 1 0 ≡ 64) × (length bs ≡ get_or bs 1 0 + 2) = grind (arith, nat_tests) in
    let q : 2 ≡ p = cc in
    subst (λ k. (bs ≡ text (drop k bs)) × (length (drop k bs) ≤ 64)) q (text_long bs h.0 h.1 h.2))
    (λ _ e. let bad : ◌≡◌ {A = ℕ} 0 1 = cc in absurd (omega arith)))
