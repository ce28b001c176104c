-- The laws of entries.
use Rattle.std.proofs.Common.{◌≡◌, ℕ, zero, suc, ◌+◌, ◌/◌, ◌%◌, ◌^◌, ◌<◌, ◌≤◌, true, ◌&&◌, ltb, leb, List, [], ◌∷◌, ◌++◌, length, get_or, take, drop, ℤ, Some, None, Option, sym, refl, ap, ◌∙◌, subst, append_assoc, arith, w64, SFits}
use Rattle.std.specs.Fmt.{signed_decimal}
use Rattle.std.proofs.lemmas.Fmt.{length_signed_le}
use Rattle.std.proofs.lemmas.List.{take_at, drop_at, length-append, length_push, same_from_push}
use Rattle.std.proofs.lemmas.Bool.{leb-true, cond_both, cond-true, cond-false, lt-ltb, le-ltb}
use Rattle.std.proofs.lemmas.Bool.Decides.{nat_tests}
use Rattle.decimal.specs.Integer.{integer}
use Rattle.decimal.specs.NumberLaws.{reads, writes}
use Rattle.store.specs.Limits.{longest_value}
use Rattle.entry.specs.Entry.{residue, low, tiny, fits, wide, number, text, body_of, body, entry, told, span_in, longest_entry}
use Rattle.entry.specs.declared.Width.{Width}
use Rattle.entry.specs.declared.Width.TheVariants.{Bits16, Bits24, Bits32, Bits64}
use Rattle.entry.specs.Widths.{code_of, size_of}
use Rattle.entry.specs.Reading.{number_in, text_in, other, text_of, either, value_in}
use Rattle.entry.proofs.Bytes.{residue_lt, low_bytes}
use Rattle.entry.proofs.Forms.{number_cases, number_back, number_forth, text_back, text_forth}

-- a value is an integer's text, or another
data Kind (v : List ℕ) : Type 0 where
  an_integer : (z : ℤ) → SFits w64 z → v ≡ signed_decimal z → body v ≡ number z → Kind v
  a_text : integer v ≡ None → body v ≡ text v → Kind v

kind : (v : List ℕ) → Kind v
kind v = go (integer v) refl
  where
    go : (o : Option ℤ) → integer v ≡ o → Kind v
    go (Some z) e = let r = reads v z e in an_integer z r.1 r.0 (ap (λ o. body_of o v) e)
    go None e = a_text e (ap (λ o. body_of o v) e)

-- ---- lengths

abbrev Few : List ℕ → Type 0
Few bs = (1 ≤ length bs) × (length bs ≤ 9)

pub number_few : (z : ℤ) → (1 ≤ length (number z)) × (length (number z) ≤ 9)
number_few z =
    cond_both (tiny z) _ _ Few (λ _. (omega arith, omega arith))
    (λ _. cond_both (fits 12 z) _ _ Few (λ _. (omega arith, omega arith))
    (λ _. cond_both (fits 15 z) _ _ Few (λ _. (omega arith, omega arith))
    (λ _. cond_both (fits 23 z) _ _ Few (λ _. (omega arith, omega arith))
    (λ _. cond_both (fits 31 z) _ _ Few (λ _. (omega arith, omega arith)) (λ _. (omega arith, omega arith))))))

text_few : (v : List ℕ) → length v ≤ longest_value → (1 ≤ length (text v)) × (length (text v) ≤ 66)
text_few v h = cond_both (leb (length v) 63) _ _ (λ bs. (1 ≤ length bs) × (length bs ≤ 66)) (λ _. (omega arith, omega arith)) (λ _. (omega arith, omega arith))

pub body_few : (v : List ℕ) → length v ≤ longest_value → (1 ≤ length (body v)) × (length (body v) ≤ 66)
body_few v h = elim (kind v) [
  | an_integer z f e b ↦ (let n = number_few z in (omega (arith, ap length b), omega (arith, ap length b)))
  | a_text e b ↦ (let n = text_few v h in (omega (arith, ap length b), omega (arith, ap length b)))
]

pub length_entry : (v : List ℕ) → length (entry v) ≡ length (body v) + 1
length_entry v = length_push (body v) (length (body v))

pub entry_some : (v : List ℕ) → length v ≤ longest_value → 2 ≤ length (entry v)
entry_some v h = omega (arith, length_entry v, (body_few v h).0)

pub entry_few : (v : List ℕ) → length v ≤ longest_value → length (entry v) ≤ longest_entry
entry_few v h = omega (arith, length_entry v, (body_few v h).1)

-- ---- decoding

pub body_back : (v : List ℕ) → length v ≤ longest_value → value_in (body v) ≡ Some v
body_back v h = elim (kind v) [
  | an_integer z f e b ↦ ap value_in b ∙ ap (either (number z)) (number_back z f) ∙ ap Some (sym e)
  | a_text e b ↦ (let t = text_back v h in
      ap value_in b ∙ ap (either (text v)) t.none ∙ ap (text_of (text v)) t.some ∙ ap (λ w. other w (integer w)) t.here ∙ ap (other v) e)
]

pub body_forth : (bs v : List ℕ) → ((i : ℕ) → get_or bs i 0 < 256) → value_in bs ≡ Some v → (bs ≡ body v) × (length v ≤ longest_value)
body_forth bs v h = go (number_in bs) refl
  where
    as_text : (t : List ℕ) (o : Option ℤ) → integer t ≡ o → other t o ≡ Some v → (t ≡ v) × (integer t ≡ None)
    as_text t (Some z) i e = let bad : ◌≡◌ {A = ℕ} 0 1 = cc in absurd (omega arith)
    as_text t None i e = (cc, i)

    texts : (o : Option ℕ) → text_in bs ≡ o → text_of bs o ≡ Some v → (bs ≡ body v) × (length v ≤ longest_value)
    texts None p e = let bad : ◌≡◌ {A = ℕ} 0 1 = cc in absurd (omega arith)
    texts (Some p) q e =
        let f = text_forth bs p q in
        let t = as_text (drop p bs) (integer (drop p bs)) refl e in
        (f.0 ∙ sym (ap (λ o. body_of o (drop p bs)) t.1) ∙ ap body t.0, omega (arith, f.1, ap length t.0))

    go : (o : Option ℤ) → number_in bs ≡ o → either bs o ≡ Some v → (bs ≡ body v) × (length v ≤ longest_value)
    go None n e = texts (text_in bs) refl e
    go (Some z) n e =
        let f = number_forth bs z h n in
        let s : signed_decimal z ≡ v = cc in
        let l = length_signed_le 19 z (omega (arith, f.1.sfits)) f.1.sfits in
        (f.0 ∙ sym (ap (λ o. body_of o (signed_decimal z)) (writes z f.1)) ∙ ap body s, omega (arith, l, ap length s))

-- ---- spans

told_number : (z : ℤ) (x : List ℕ) → SFits w64 z → told (number z ++ x) ≡ length (number z)
told_number z x f = number_cases (λ bs. told (bs ++ x) ≡ length bs) z f
    (λ n e h. cond-true (ltb n 128) _ _ (lt-ltb _ _ h))
    (λ _ _. let l = residue_lt (2 ^ 13) z (omega arith) in
    cond-false (ltb (192 + residue (2 ^ 13) z / 256) 128) _ _ (le-ltb _ _ (omega arith)) ∙ cond-false (ltb (192 + residue (2 ^ 13) z / 256) 192) _ _ (le-ltb _ _ (omega arith))
    ∙ cond-true (ltb (192 + residue (2 ^ 13) z / 256) 224) _ _ (lt-ltb _ _ (omega arith)))
    (λ w _. wide_told w)
  where
    wide_told : (w : Width) → told (wide (code_of w) (size_of w) z ++ x) ≡ length (wide (code_of w) (size_of w) z)
    wide_told Bits16 = refl
    wide_told Bits24 = refl
    wide_told Bits32 = refl
    wide_told Bits64 = refl

told_text : (v x : List ℕ) → length v ≤ longest_value → told (text v ++ x) ≡ length (text v)
told_text v x h = cond_both (leb (length v) 63) _ _ (λ bs. told (bs ++ x) ≡ length bs)
    (λ e. let l : length v ≤ 63 = leb-true _ _ e in
    cond-false (ltb (128 + length v) 128) _ _ (le-ltb _ _ (omega arith)) ∙ cond-true (ltb (128 + length v) 192) _ _ (lt-ltb _ _ (omega arith)) ∙ omega arith)
    (λ e. let b = 224 + length v / 256 in
    cond-false (ltb b 128) _ _ (le-ltb _ _ (omega arith)) ∙ cond-false (ltb b 192) _ _ (le-ltb _ _ (omega arith)) ∙ cond-false (ltb b 224) _ _ (le-ltb _ _ (omega arith))
    ∙ cond-true (ltb b 240) _ _ (lt-ltb _ _ (omega arith)) ∙ omega arith)

told_body : (v x : List ℕ) → length v ≤ longest_value → told (body v ++ x) ≡ length (body v)
told_body v x h = elim (kind v) [
  | an_integer z f e b ↦ ap (λ bs. told (bs ++ x)) b ∙ told_number z x f ∙ sym (ap length b)
  | a_text e b ↦ ap (λ bs. told (bs ++ x)) b ∙ told_text v x h ∙ sym (ap length b)
]

pub span_entry : (v x : List ℕ) → length v ≤ longest_value → span_in (entry v ++ x) ≡ Some (length (entry v))
span_entry v x h =
    let t : told (entry v ++ x) ≡ length (body v) = ap told (append_assoc (body v) (length (body v) ∷ []) x) ∙ told_body v (length (body v) ∷ x) h in
    let s = (body_few v h).0 in
    let l : length (entry v ++ x) ≡ length (body v) + 1 + length x = omega (arith, length-append (entry v) x, length_entry v) in
    let w : ltb 0 (told (entry v ++ x)) && ltb (told (entry v ++ x)) (length (entry v ++ x)) ≡ true = grind (arith, nat_tests) in
    cond-true (ltb 0 (told (entry v ++ x)) && ltb (told (entry v ++ x)) (length (entry v ++ x))) _ _ w
    ∙ ap Some (ap (λ n. n + 1) t ∙ sym (length_entry v))

-- ---- entries tell values apart

same_body : (v w : List ℕ) → length v ≤ longest_value → length w ≤ longest_value → body v ≡ body w → v ≡ w
same_body v w h k e = let a = body_back v h in let b = body_back w k in let c = ap value_in e in cc

pub apart : (v w x y : List ℕ) → length v ≤ longest_value → length w ≤ longest_value → entry v ++ x ≡ entry w ++ y → v ≡ w
apart v w x y h k e =
    let a = span_entry v x h in
    let b = span_entry w y k in
    let c = ap span_in e in
    let s : length (entry v) ≡ length (entry w) = cc in
    let l : length (body v) ≡ length (body w) = omega (arith, length_entry v, length_entry w) in
    let front : (v x : List ℕ) → take (length (body v)) (entry v ++ x) ≡ body v = λ v x. ap (take (length (body v))) (append_assoc (body v) (length (body v) ∷ []) x) ∙ take_at (body v) (length (body v) ∷ x) (length (body v)) refl in
    same_body v w h k (sym (front v x) ∙ ap (take (length (body v))) e ∙ ap (λ n. take n (entry w ++ y)) l ∙ front w y)

pub apart_backward : (v w x y : List ℕ) → length v ≤ longest_value → length w ≤ longest_value → x ++ entry v ≡ y ++ entry w → v ≡ w
apart_backward v w x y h k e =
    let q = same_from_push (x ++ body v) (y ++ body w) (length (body v)) (length (body w)) (append_assoc x (body v) (length (body v) ∷ []) ∙ e ∙ sym (append_assoc y (body w) (length (body w) ∷ []))) in
    let l : length x ≡ length y = omega (arith, simp length-append at (ap length q.0), q.1) in
    same_body v w h k (sym (drop_at x (body v) (length x) refl) ∙ ap (drop (length x)) q.0 ∙ drop_at y (body w) (length x) (sym l))

pub equal : (v w : List ℕ) → length v ≤ longest_value → length w ≤ longest_value → entry v ≡ entry w → v ≡ w
equal v w h k e = apart v w [] [] h k (ap (λ bs. bs ++ []) e)

-- ---- entries are bytes

more : (b : ℕ) (bs : List ℕ) (i : ℕ) → b < 256 → ((j : ℕ) → get_or bs j 0 < 256) → get_or (b ∷ bs) i 0 < 256
more b bs zero h t = h
more b bs (suc i) h t = t i

one : (b i : ℕ) → b < 256 → get_or (b ∷ []) i 0 < 256
one b i h = more b [] i h (λ j. omega arith)

two : (b c i : ℕ) → b < 256 → c < 256 → get_or (b ∷ c ∷ []) i 0 < 256
two b c i h k = more b (c ∷ []) i h (λ j. one c j k)

both : (bs cs : List ℕ) (i : ℕ) → ((j : ℕ) → get_or bs j 0 < 256) → ((j : ℕ) → get_or cs j 0 < 256) → get_or (bs ++ cs) i 0 < 256
both [] cs i h k = k i
both (b ∷ bs) cs zero h k = h 0
both (b ∷ bs) cs (suc i) h k = both bs cs i (λ j. h (suc j)) k

number_bytes : (z : ℤ) (i : ℕ) → SFits w64 z → get_or (number z) i 0 < 256
number_bytes z i f = number_cases (λ bs. get_or bs i 0 < 256) z f
    (λ n e h. one n i (omega arith))
    (λ _ _. let l = residue_lt (2 ^ 13) z (omega arith) in two (192 + residue (2 ^ 13) z / 256) (residue (2 ^ 13) z % 256) i (omega arith) (omega arith))
    (λ w _. more (code_of w) (low (size_of w) _) i (code w) (low_bytes (size_of w) _))
  where
    code : (w : Width) → code_of w < 256
    code Bits16 = omega arith
    code Bits24 = omega arith
    code Bits32 = omega arith
    code Bits64 = omega arith

text_bytes : (v : List ℕ) (i : ℕ) → length v ≤ longest_value → ((j : ℕ) → get_or v j 0 < 256) → get_or (text v) i 0 < 256
text_bytes v i h b = cond_both (leb (length v) 63) _ _ (λ bs. get_or bs i 0 < 256)
    (λ e. more (128 + length v) v i (omega arith) b)
    (λ e. more (224 + length v / 256) ((length v % 256) ∷ v) i (omega arith) (λ j. more (length v % 256) v j (omega arith) b))

pub entry_bytes : (v : List ℕ) → length v ≤ longest_value → ((i : ℕ) → get_or v i 0 < 256) → (i : ℕ) → get_or (entry v) i 0 < 256
entry_bytes v h b i = both (body v) (length (body v) ∷ []) i (elim (kind v) [
  | an_integer z f e w ↦ (λ j. subst (λ bs. get_or bs j 0 < 256) (sym w) (number_bytes z j f))
  | a_text e w ↦ (λ j. subst (λ bs. get_or bs j 0 < 256) (sym w) (text_bytes v j h b))
])
    (λ j. one (length (body v)) j (omega (arith, (body_few v h).1)))
