-- Texts, integers and heads, with CR LF behind them.
use Rattle.std.proofs.Common.{◌≡◌, ℕ, zero, suc, ◌+◌, ◌-◌, ◌^◌, ◌<◌, Bool, true, false, cond, eqb, List, [], ◌∷◌, ◌++◌, length, take, drop, ℤ, pos, negsuc, decimal, sym, refl, ap, ◌∙◌, subst, inl, inr, ⊎_elim, append_assoc, append-nil, arith, length-append, take-append-drop, w64, SFits}
use Rattle.std.specs.List.{AllByRecursion, prefix_len}
use Rattle.std.proofs.lemmas.Bool.Decides.{nat_tests}
use Rattle.std.specs.Fmt.{signed_decimal}
use Rattle.std.proofs.lemmas.List.{append_cancel_left, length-take-le}
use Rattle.reply.specs.Replies.{longest_text, Letter, Text}
use Rattle.wire.specs.Steps.{crlf, Byte, Between, Just, Number}
use Rattle.reply_reader.specs.Steps.{NoMinus, Integers, Heads, Run, Texts}
use Rattle.wire.proofs.Sets.{meet, Back}
use Rattle.wire.proofs.Numbers.{leads_digit}

every_in : (P : ℕ → Type 0) (s : List ℕ) (x : ℕ) (t : List ℕ) → AllByRecursion P (s ++ (x ∷ t)) → P x
every_in P [] x t h = h.0
every_in P (y ∷ s) x t h = every_in P s x t h.1

-- the longest text
abbrev pub is_letter : ℕ → Bool
is_letter b = cond (eqb b 13) false (cond (eqb b 10) false true)

module _ (m c : ℕ) (r : List ℕ) (byte : Byte c) (h : Run m r (prefix_len is_letter (take m r))) where
  run_step : (test : Bool) → is_letter c ≡ test → Run (suc m) (c ∷ r) (cond test (1 + prefix_len is_letter (take m r)) 0)
  run_step true is =
      let letter : Letter c = (byte, grind (arith, nat_tests), grind (arith, nat_tests)) in
      let next : suc (prefix_len is_letter (take m r)) ≡ 1 + prefix_len is_letter (take m r) = omega arith in
      subst (Run (suc m) (c ∷ r)) next (record { within = omega (arith, h.within); short = omega (arith, h.short); letters = (letter, h.letters); ends = λ x t at l. ap suc (h.ends x t at l) })
  run_step false is =
      record {
        within = omega arith;
        short = omega arith;
        letters = tt;
        ends = λ x t at l. let same : c ≡ x = cc in let l' : Letter c = subst Letter (sym same) l in absurd (grind (arith, nat_tests));
      }

pub run_of : (most : ℕ) (s : List ℕ) → AllByRecursion Byte s → Run most s (prefix_len is_letter (take most s))
run_of zero s bytes = record { within = omega arith; short = omega arith; letters = tt; ends = λ c r at l. refl }
run_of (suc m) [] bytes = record { within = omega arith; short = omega arith; letters = tt; ends = λ c r at l. absurd (omega (arith, ap length at)) }
run_of (suc m) (c ∷ r) bytes = run_step m c r bytes.0 (run_of m r bytes.1) (is_letter c) refl

-- two texts with CR LF that begin one text are one
letters_meet : (t b : List ℕ) → AllByRecursion Letter t → (c : ℕ) (x y r : List ℕ) → t ≡ b ++ x → (b ++ crlf) ++ y ≡ t ++ (c ∷ r) → x ≡ []
letters_meet t b all c [] y r e m = refl
letters_meet t b all c (x ∷ xs) y r e m =
    let f : crlf ++ y ≡ (x ∷ xs) ++ (c ∷ r) = append_cancel_left b (crlf ++ y) ((x ∷ xs) ++ (c ∷ r)) (sym (append_assoc b crlf y) ∙ m ∙ ap (λ l. l ++ (c ∷ r)) e ∙ append_assoc b (x ∷ xs) (c ∷ r)) in
    let same : 13 ≡ x = cc in
    let l : Letter x = every_in Letter b x xs (subst (AllByRecursion Letter) e all) in
    absurd (l.1 (sym same))

next_is : (b t : List ℕ) (x c : ℕ) (xs y r : List ℕ) → b ≡ t ++ (x ∷ xs) → (b ++ crlf) ++ y ≡ t ++ (c ∷ r) → x ≡ c
next_is b t x c xs y r e m =
    let f : (x ∷ xs) ++ (crlf ++ y) ≡ c ∷ r =
    append_cancel_left t ((x ∷ xs) ++ (crlf ++ y)) (c ∷ r) (sym (append_assoc t (x ∷ xs) (crlf ++ y)) ∙ ap (λ l. l ++ (crlf ++ y)) (sym e) ∙ sym (append_assoc b crlf y) ∙ m) in
    cc

-- t is passed, and c cannot go on with it
text_stuck : (t b : List ℕ) (c : ℕ) (y r : List ℕ) → Text t → Text b → (Letter c → length t ≡ longest_text) → (b ++ crlf) ++ y ≡ t ++ (c ∷ r) → b ≡ t
text_stuck t b c y r lt lb full m =
    ⊎_elim
    (λ h. let z = letters_meet t b lt.1 c h.0 y r h.1 m in sym (h.1 ∙ ap (λ l. b ++ l) z ∙ append-nil b))
    (λ h. longer h.0 h.1)
    (meet b t (crlf ++ y) (c ∷ r) (sym (append_assoc b crlf y) ∙ m))
  where
    longer : (x : List ℕ) → b ≡ t ++ x → b ≡ t
    longer [] e = e ∙ append-nil t
    longer (x ∷ xs) e =
        let same = next_is b t x c xs y r e m in
        let l : Letter x = every_in Letter t x xs (subst (AllByRecursion Letter) e lb.1) in
        let n = full (subst Letter same l) in
        absurd (omega (arith, ap length e, length-append t (x ∷ xs), lb.0))

pub text_free : (t b y r : List ℕ) → Text t → Text b → (b ++ crlf) ++ y ≡ (t ++ crlf) ++ r → b ≡ t
text_free t b y r lt lb e = text_stuck t b 13 y (10 ∷ r) lt lb (λ l. absurd (l.1 refl)) (e ∙ append_assoc t crlf r)

-- CR LF behind the longest text
module _ (s u v : List ℕ) (k : ℕ) (h : Run longest_text s k) (eu : u ≡ take k s) (ev : v ≡ drop k s) where
  pub run_is : Text u
  run_is =
      let long : length (take k s) ≡ k = length-take-le k s h.within in
      subst Text (sym eu) (omega (arith, h.short), h.letters)

  pub run_parts : s ≡ u ++ v
  run_parts = sym (take-append-drop k s) ∙ ap (λ l. l ++ drop k s) (sym eu) ∙ ap (λ l. u ++ l) (sym ev)

  pub back_text : Back Texts (Just crlf) u v
  back_text =
      let long : length u ≡ k = ap length eu ∙ length-take-le k s h.within in
      record {
        joins = λ w e. (u, run_is, ap (λ l. u ++ l) e);
        leads = λ c r at w t r' l e.
            let same = text_stuck u l.0 c t r' run_is l.1 (λ q. long ∙ h.ends c r (sym ev ∙ at) q) (ap (λ x. x ++ t) (sym l.2) ∙ e) in
            (crlf, refl, l.2 ∙ ap (λ x. x ++ crlf) same);
      }

-- integers
pub minus_first : (n : ℕ) (t x : List ℕ) → n < 2 ^ 64 → (decimal n ++ crlf) ++ t ≡ 45 ∷ x → ⊥
minus_first n t x h e = let i = leads_digit n 45 t x h e in omega arith

pub back_minus : (s : List ℕ) → Back Integers (Number 1 (2 ^ 63)) (45 ∷ []) s
back_minus s =
    record {
      joins = λ v l. below v l.0 l.1 l.2;
      leads = λ c r at w t r' l e. past w t (c ∷ r') l.0 l.1 l.2 e;
    }
  where
    below : (v : List ℕ) (n : ℕ) → Between 1 (2 ^ 63) n → v ≡ decimal n ++ crlf → Integers (45 ∷ v)
    below v zero b e = absurd (omega arith)
    below v (suc n) b e = (negsuc n, record { sfits = omega arith }, ap (λ l. 45 ∷ l) e)

    past : (w t x : List ℕ) (z : ℤ) → SFits w64 z → w ≡ signed_decimal z ++ crlf → w ++ t ≡ 45 ∷ x → (v : List ℕ) × Number 1 (2 ^ 63) v × (w ≡ 45 ∷ v)
    past w t x (pos n) f e m = absurd (minus_first n t x (omega arith) (ap (λ l. l ++ t) (sym e) ∙ m))
    past w t x (negsuc n) f e m = (decimal (suc n) ++ crlf, (suc n, (omega arith, omega arith), refl), e)

pub back_plus : (s : List ℕ) → NoMinus s → Back Integers (Number 0 (2 ^ 63 - 1)) [] s
back_plus s none =
    record {
      joins = λ v l. (pos l.0, record { sfits = omega (arith, l.1.1) }, l.2);
      leads = λ c r at w t r' l e. past c r at w t r' l.0 l.1 l.2 e;
    }
  where
    past : (c : ℕ) (r : List ℕ) → s ≡ c ∷ r → (w t x : List ℕ) (z : ℤ) → SFits w64 z → w ≡ signed_decimal z ++ crlf → w ++ t ≡ c ∷ x → (v : List ℕ) × Number 0 (2 ^ 63 - 1) v × (w ≡ v)
    past c r at w t x (pos n) f e m = (w, (n, (omega arith, omega arith), e), refl)
    past c r at w t x (negsuc n) f e m =
        let g : 45 ∷ ((decimal (suc n) ++ crlf) ++ t) ≡ c ∷ x = ap (λ l. l ++ t) (sym e) ∙ m in
        let same : c ≡ 45 = cc in
        absurd (none r (at ∙ ap (λ k. k ∷ r) same))

-- heads
pub back_nil : (low high : ℕ) (s : List ℕ) → high < 2 ^ 64 → Back (Heads low high) (Just (49 ∷ crlf)) (45 ∷ []) s
back_nil low high s hh =
    record {
      joins = λ v e. inr (ap (λ l. 45 ∷ l) e);
      leads = λ c r at w t r' l e.
          ⊎_elim
          (λ n. absurd (minus_first n.0 t (c ∷ r') (omega (arith, n.1.1)) (ap (λ l. l ++ t) (sym n.2) ∙ e)))
          (λ n. (49 ∷ crlf, refl, n))
          l;
    }

pub back_head : (low high : ℕ) (s : List ℕ) → NoMinus s → Back (Heads low high) (Number low high) [] s
back_head low high s none =
    record {
      joins = λ v l. inl l;
      leads = λ c r at w t r' l e.
          ⊎_elim
          (λ n. (w, n, refl))
          (λ n.
          let g : 45 ∷ ((49 ∷ crlf) ++ t) ≡ c ∷ r' = ap (λ l. l ++ t) (sym n) ∙ e in
          let same : c ≡ 45 = cc in
          absurd (none r (at ∙ ap (λ k. k ∷ r) same)))
          l;
    }
