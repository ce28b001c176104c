-- Values one after another, and arrays of them.
use Rattle.std.proofs.Common.{◌≡◌, ℕ, zero, suc, ◌+◌, ◌-◌, ◌≤◌, List, [], ◌∷◌, ◌++◌, length, take, decimal, sym, refl, ap, ◌∙◌, subst, inl, inr, ⊎_elim, append_assoc, append-nil, arith, length-append}
use Rattle.std.proofs.lemmas.List.{take_at}
use Rattle.reply.specs.Replies.{Reply, Replies, array, nil, nil_array, none, then, count, nil_text, most_elements, bytes_of, row_of, Lawful, EachLawful}
use Rattle.reply_reader.specs.Reading.{Says}
use Rattle.wire.specs.Steps.{crlf, Stopped}
use Rattle.reply_reader.specs.Steps.{After, Heads, Rows}
use Rattle.wire.specs.declared.stop.Stop.{Stop}
use Rattle.wire.proofs.Sets.{Front, Back, front, back}
use Rattle.wire.proofs.Numbers.{number_free}
use Rattle.reply_reader.proofs.LineLemmas.{minus_first}
use Rattle.reply_reader.proofs.Marks.{rest_of, mark_is, as_array}
use Rattle.reply_reader.proofs.Free.{free}

-- one more value at the end
abbrev push : Replies → Reply → Replies
push none u = then u none
push (then v vs) u = then v (push vs u)

count_push : (vs : Replies) (u : Reply) → count (push vs u) ≡ suc (count vs)
count_push none u = refl
count_push (then v vs) u = ap suc (count_push vs u)

row_push : (vs : Replies) (u : Reply) → row_of (push vs u) ≡ row_of vs ++ bytes_of u
row_push none u = append-nil (bytes_of u)
row_push (then v vs) u = ap (λ l. bytes_of v ++ l) (row_push vs u) ∙ sym (append_assoc (bytes_of v) (row_of vs) (bytes_of u))

each_push : (d : ℕ) (vs : Replies) (u : Reply) → EachLawful vs d → Lawful u d → EachLawful (push vs u) d
each_push d none u h l = (l, tt)
each_push d (then v vs) u h l = (h.0, each_push d vs u h.1 l)

-- values to go on with
nils : ℕ → Replies
nils zero = none
nils (suc n) = then nil (nils n)

count_nils : (n : ℕ) → count (nils n) ≡ n
unfolding nils
count_nils zero = refl
count_nils (suc n) = ap suc (count_nils n)

each_nils : (d n : ℕ) → EachLawful (nils n) d
unfolding nils
each_nils d zero = tt
each_nils d (suc n) = (tt, each_nils d n)

front_rows : (d k : ℕ) (s : List ℕ) → Front (Rows d (suc k)) (Says d) s
front_rows d k s =
    record {
      grows = λ w l. (row_of (nils k), (then l.0 (nils k), ap suc (count_nils k), (l.1, each_nils d k), ap (λ x. x ++ row_of (nils k)) l.2));
      parts = λ w l. first w l.0 l.1 l.2 l.3;
    }
  where
    first : (w : List ℕ) (vs : Replies) → count vs ≡ suc k → EachLawful vs d → w ≡ row_of vs → (v t : List ℕ) × Says d v × (w ≡ v ++ t)
    first w none n all e = absurd (omega arith)
    first w (then v vs) n all e = (bytes_of v, row_of vs, (v, all.0, refl), e)

back_rows : (d k : ℕ) (v : Reply) (s : List ℕ) → Lawful v d → Back (Rows d (suc k)) (Rows d k) (bytes_of v) s
back_rows d k v s h =
    record {
      joins = λ w l. (then v l.0, ap suc l.1, (h, l.2), ap (λ x. bytes_of v ++ x) l.3);
      leads = λ c r at w t r' l e. next c w t r' l.0 l.1 l.2 l.3 e;
    }
  where
    next : (c : ℕ) (w t r' : List ℕ) (vs : Replies) → count vs ≡ suc k → EachLawful vs d → w ≡ row_of vs → w ++ t ≡ bytes_of v ++ (c ∷ r') → (x : List ℕ) × Rows d k x × (w ≡ bytes_of v ++ x)
    next c w t r' none n all e m = absurd (omega arith)
    next c w t r' (then u us) n all e m =
        let same : u ≡ v = free d u v all.0 h (row_of us ++ t) (c ∷ r') (sym (append_assoc (bytes_of u) (row_of us) t) ∙ ap (λ x. x ++ t) (sym e) ∙ m) in
        (row_of us, (us, omega arith, all.1, refl), e ∙ ap (λ x. bytes_of x ++ row_of us) same)

-- some of n values are passed, so many are left, and how what comes next carries to the whole
pub record Sofar (d n : ℕ) (start here : List ℕ) (left : ℕ) : Type 0 where
  pub values : Replies
  pub counted : count values + left ≡ n
  pub lawful : EachLawful values d
  pub passed : start ≡ row_of values ++ here
  pub carries : (e : Stop) → Stopped (Rows d left) here e → Stopped (Rows d n) start e

pub none_passed : (d n : ℕ) (s : List ℕ) → Sofar d n s s n
none_passed d n s = record { values = none; counted = omega arith; lawful = tt; passed = refl; carries = λ e h. h }

module _ (d n : ℕ) (start here : List ℕ) (left k : ℕ) (h : Sofar d n start here left) (is : left ≡ suc k) where
  pub stuck : (e : Stop) → Stopped (Says d) here e → Stopped (Rows d n) start e
  stuck e s = h.carries e (subst (λ m. Stopped (Rows d m) here e) (sym is) (front (Rows d (suc k)) (Says d) here e (front_rows d k here) s))

  pub one_more : (v : Reply) (next : List ℕ) → Lawful v d → here ≡ bytes_of v ++ next → Sofar d n start next k
  one_more v next l e =
      record {
        values = push h.values v;
        counted = omega (arith, count_push h.values v, h.counted);
        lawful = each_push d h.values v h.lawful l;
        passed = h.passed ∙ ap (λ x. row_of h.values ++ x) e ∙ sym (append_assoc (row_of h.values) (bytes_of v) next) ∙ ap (λ x. x ++ next) (sym (row_push h.values v));
        carries = λ f s. h.carries f (subst (λ m. Stopped (Rows d m) here f) (sym is) (back (Rows d (suc k)) (Rows d k) (bytes_of v) next here f e (back_rows d k v next l) s));
      }

-- an array, before and after its head
pub front_array : (d : ℕ) (s : List ℕ) → Front (After 42 (suc d)) (Heads 0 most_elements) s
front_array d s =
    record {
      grows = λ v h.
          ⊎_elim
          (λ l.
          let n = l.0 in
          let long : count (nils n) ≡ n = count_nils n in
          (row_of (nils n), (array (nils n), (omega (arith, l.1.1), each_nils d n), ap (λ x. 42 ∷ (x ++ row_of (nils n))) l.2 ∙ ap (λ k. 42 ∷ ((decimal k ++ crlf) ++ row_of (nils n))) (sym long))))
          (λ e. ([], (nil_array, omega arith, ap (λ x. 42 ∷ x) (append-nil v ∙ e))))
          h;
      parts = λ w l.
          let q = mark_is l.0 42 w l.2 in
          ⊎_elim
          (λ a.
          let law : Lawful (array a.0) (suc d) = subst (λ u. Lawful u (suc d)) a.1 l.1 in
          (decimal (count a.0) ++ crlf, row_of a.0, inl (count a.0, (omega arith, law.0), refl), q.1 ∙ ap rest_of a.1))
          (λ a. (nil_text ++ crlf, [], inr refl, q.1 ∙ ap rest_of a))
          (as_array l.0 q.0);
    }

pub back_array : (d n : ℕ) (s : List ℕ) → n ≤ most_elements → Back (After 42 (suc d)) (Rows d n) (decimal n ++ crlf) s
back_array d n s h =
    record {
      joins = λ v l. (array l.0, (omega (arith, l.1), l.2), ap (λ x. 42 ∷ ((decimal n ++ crlf) ++ x)) l.3 ∙ ap (λ k. 42 ∷ ((decimal k ++ crlf) ++ row_of l.0)) (sym l.1));
      leads = λ c r at w t r' l e.
          let q = mark_is l.0 42 w l.2 in
          ⊎_elim
          (λ a.
          let law : Lawful (array a.0) (suc d) = subst (λ u. Lawful u (suc d)) a.1 l.1 in
          let is : w ≡ (decimal (count a.0) ++ crlf) ++ row_of a.0 = q.1 ∙ ap rest_of a.1 in
          let same : count a.0 ≡ n = number_free n (count a.0) (c ∷ r') (row_of a.0 ++ t) (omega arith) (omega (arith, law.0)) (sym (append_assoc (decimal (count a.0) ++ crlf) (row_of a.0) t) ∙ ap (λ x. x ++ t) (sym is) ∙ e) in
          (row_of a.0, (a.0, same, law.1, refl), is ∙ ap (λ k. (decimal k ++ crlf) ++ row_of a.0) same))
          (λ a.
          let is : w ≡ nil_text ++ crlf = q.1 ∙ ap rest_of a in
          absurd (minus_first n (c ∷ r') ((49 ∷ crlf) ++ t) (omega arith) (sym e ∙ ap (λ x. x ++ t) is)))
          (as_array l.0 q.0);
    }

-- all values are passed
pub no_longer : (d n left : ℕ) (start rest : List ℕ) → Sofar d n start rest left → length rest ≤ length start
no_longer d n left start rest h = omega (arith, ap length h.passed, length-append (row_of h.values) rest)

pub all_passed : (d n left : ℕ) (s start rest : List ℕ) → Sofar d n start rest left → left ≤ 0 → n ≤ most_elements → s ≡ (decimal n ++ crlf) ++ start → (v : Reply) × Lawful v (suc d) × ((vs : Replies) × (v ≡ array vs) × (n ≡ count vs) × (take (length start - length rest) start ≡ row_of vs)) × (42 ∷ s ≡ bytes_of v ++ rest)
all_passed d n left s start rest h end most head =
    let vs = h.values in
    let all : n ≡ count vs = omega (arith, h.counted) in
    let span : length start - length rest ≡ length (row_of vs) = omega (arith, ap length h.passed, length-append (row_of vs) rest) in (
      array vs,
      (omega arith, h.lawful),
      (vs, refl, all, ap (λ k. take k start) span ∙ ap (take (length (row_of vs))) h.passed ∙ take_at (row_of vs) rest (length (row_of vs)) refl),
      ap (λ l. 42 ∷ l) (head ∙ ap (λ l. (decimal n ++ crlf) ++ l) h.passed ∙ sym (append_assoc (decimal n ++ crlf) (row_of vs) rest) ∙ ap (λ k. ((decimal k ++ crlf) ++ row_of vs) ++ rest) all),
    )
