-- Values by their marks.
use Rattle.std.proofs.Common.{◌≡◌, ℕ, zero, suc, ◌≤◌, ◌⊎◌, List, [], ◌∷◌, ◌++◌, length, replicate, ℤ, decimal, Result, sym, refl, ap, ◌∙◌, subst, inl, inr, ⊎_elim, append_assoc, append-nil, arith, MatchResult, IfOk, IfErr}
use Rattle.std.specs.Borrow.{Bor}
use Rattle.std.proofs.lemmas.List.{length-replicate}
use Rattle.std.specs.Fmt.{signed_decimal}
use Rattle.std.proofs.lemmas.Result.{MatchResult-weaker, MatchResult-from_both, IfOk-weaker, IfErr-weaker}
use Rattle.reply.specs.Replies.{Reply, Replies, text, error, integer, bulk, nil, nil_array, array, count, nil_text, longest_bulk, bytes_of, row_of, Lawful, Bulk}
use Rattle.reply_reader.specs.Reading.{Says, Means}
use Rattle.wire.specs.Steps.{crlf, Stopped, Filled}
use Rattle.reply_reader.specs.Steps.{Finds, After, Came, Texts, TextSaid, Integers, Heads}
use Rattle.reply_reader.specs.declared.Found.{Found}
use Rattle.reply_reader.specs.declared.Value.{Value}
use Rattle.wire.specs.declared.stop.Stop.{Stop}
use Rattle.wire.specs.declared.stop.Stop.TheVariants.{At}
use Rattle.wire.specs.Texts.{Short, Strays}
use Rattle.wire.proofs.Sets.{Front, Back, back}
use Rattle.wire.proofs.Numbers.{number_free, leads_digit}
use Rattle.wire.proofs.Sizes.{zeros}

abbrev pub mark_of : Reply → ℕ
mark_of (text t) = 43
mark_of (error t) = 45
mark_of (integer z) = 58
mark_of (bulk b) = 36
mark_of nil = 36
mark_of nil_array = 42
mark_of (array vs) = 42

abbrev pub rest_of : Reply → List ℕ
rest_of (text t) = t ++ crlf
rest_of (error t) = t ++ crlf
rest_of (integer z) = signed_decimal z ++ crlf
rest_of (bulk b) = (decimal (length b) ++ crlf) ++ (b ++ crlf)
rest_of nil = nil_text ++ crlf
rest_of nil_array = nil_text ++ crlf
rest_of (array vs) = (decimal (count vs) ++ crlf) ++ row_of vs

pub parts : (v : Reply) → bytes_of v ≡ mark_of v ∷ rest_of v
parts (text t) = refl
parts (error t) = refl
parts (integer z) = refl
parts (bulk b) = refl
parts nil = refl
parts nil_array = refl
parts (array vs) = refl

-- which values have a mark
pub as_text : (v : Reply) → mark_of v ≡ 43 → (t : List ℕ) × (v ≡ text t)
as_text (text t) h = (t, refl)
as_text (error t) h = absurd (omega arith)
as_text (integer z) h = absurd (omega arith)
as_text (bulk b) h = absurd (omega arith)
as_text nil h = absurd (omega arith)
as_text nil_array h = absurd (omega arith)
as_text (array vs) h = absurd (omega arith)

pub as_error : (v : Reply) → mark_of v ≡ 45 → (t : List ℕ) × (v ≡ error t)
as_error (text t) h = absurd (omega arith)
as_error (error t) h = (t, refl)
as_error (integer z) h = absurd (omega arith)
as_error (bulk b) h = absurd (omega arith)
as_error nil h = absurd (omega arith)
as_error nil_array h = absurd (omega arith)
as_error (array vs) h = absurd (omega arith)

pub as_integer : (v : Reply) → mark_of v ≡ 58 → (z : ℤ) × (v ≡ integer z)
as_integer (text t) h = absurd (omega arith)
as_integer (error t) h = absurd (omega arith)
as_integer (integer z) h = (z, refl)
as_integer (bulk b) h = absurd (omega arith)
as_integer nil h = absurd (omega arith)
as_integer nil_array h = absurd (omega arith)
as_integer (array vs) h = absurd (omega arith)

pub as_bulk : (v : Reply) → mark_of v ≡ 36 → ((b : List ℕ) × (v ≡ bulk b)) ⊎ (v ≡ nil)
as_bulk (text t) h = absurd (omega arith)
as_bulk (error t) h = absurd (omega arith)
as_bulk (integer z) h = absurd (omega arith)
as_bulk (bulk b) h = inl (b, refl)
as_bulk nil h = inr refl
as_bulk nil_array h = absurd (omega arith)
as_bulk (array vs) h = absurd (omega arith)

pub as_array : (v : Reply) → mark_of v ≡ 42 → ((vs : Replies) × (v ≡ array vs)) ⊎ (v ≡ nil_array)
as_array (text t) h = absurd (omega arith)
as_array (error t) h = absurd (omega arith)
as_array (integer z) h = absurd (omega arith)
as_array (bulk b) h = absurd (omega arith)
as_array nil h = absurd (omega arith)
as_array nil_array h = inr refl
as_array (array vs) h = inl (vs, refl)

-- the first byte of a value is its mark
pub mark_is : (v : Reply) (m : ℕ) (w : List ℕ) → m ∷ w ≡ bytes_of v → (mark_of v ≡ m) × (w ≡ rest_of v)
mark_is v m w e = let f : m ∷ w ≡ mark_of v ∷ rest_of v = e ∙ parts v in (cc, cc)

back_mark : (m d : ℕ) (s : List ℕ) → Back (Says d) (After m d) (m ∷ []) s
back_mark m d s =
    record {
      joins = λ v l. l;
      leads = λ c r at w t r' l e.
          let v = l.0 in
          let first : mark_of v ∷ (rest_of v ++ t) ≡ m ∷ (c ∷ r') = ap (λ x. x ++ t) (sym (l.2 ∙ parts v)) ∙ e in
          let same : mark_of v ≡ m = cc in
          let is : w ≡ m ∷ rest_of v = l.2 ∙ parts v ∙ ap (λ k. k ∷ rest_of v) same in
          (rest_of v, (v, l.1, sym is ∙ l.2), is);
    }

-- a byte that is no mark
no_mark : (d c : ℕ) (r : List ℕ) → ((v : Reply) → Lawful v d → mark_of v ≡ c → ⊥) → Strays (Says d) (c ∷ r) 0
no_mark d c r none =
    record {
      word = bytes_of nil;
      lawful = (nil, tt, refl);
      begins = (bytes_of nil, refl);
      leaves = λ w l b.
          let f : mark_of l.0 ∷ rest_of l.0 ≡ c ∷ b.0 = sym (l.2 ∙ parts l.0) ∙ b.1 in
          none l.0 l.1 (cc);
      open_ended = λ w l b.
          let f : c ∷ r ≡ mark_of l.0 ∷ (rest_of l.0 ++ b.0) = b.1 ∙ ap (λ x. x ++ b.0) (l.2 ∙ parts l.0) in
          none l.0 l.1 (cc);
    }

pub none_yet : (d : ℕ) (s : List ℕ) → s ≡ [] → Short (Says d) s
none_yet d s h = record { word = bytes_of nil; lawful = (nil, tt, refl); next = 36; rest = nil_text ++ crlf; split = ap (λ l. l ++ bytes_of nil) (sym h) }

-- a kind behind its mark
pub kind_text : (d : ℕ) (s : List ℕ) → Back (After 43 d) Texts [] s
kind_text d s =
    record {
      joins = λ v l. (text l.0, l.1, ap (λ x. 43 ∷ x) l.2);
      leads = λ c r at w t r' l e.
          let q = mark_is l.0 43 w l.2 in
          let a = as_text l.0 q.0 in
          (w, (a.0, subst (λ u. Lawful u d) a.1 l.1, q.1 ∙ ap rest_of a.1), refl);
    }

pub kind_error : (d : ℕ) (s : List ℕ) → Back (After 45 d) Texts [] s
kind_error d s =
    record {
      joins = λ v l. (error l.0, l.1, ap (λ x. 45 ∷ x) l.2);
      leads = λ c r at w t r' l e.
          let q = mark_is l.0 45 w l.2 in
          let a = as_error l.0 q.0 in
          (w, (a.0, subst (λ u. Lawful u d) a.1 l.1, q.1 ∙ ap rest_of a.1), refl);
    }

pub kind_integer : (d : ℕ) (s : List ℕ) → Back (After 58 d) Integers [] s
kind_integer d s =
    record {
      joins = λ v l. (integer l.0, l.1, ap (λ x. 58 ∷ x) l.2);
      leads = λ c r at w t r' l e.
          let q = mark_is l.0 58 w l.2 in
          let a = as_integer l.0 q.0 in
          (w, (a.0, subst (λ u. Lawful u d) a.1 l.1, q.1 ∙ ap rest_of a.1), refl);
    }

-- a text or an error, by the value that is made of it
pub came_text : (made : Bor (List ℕ) → Value → Type 0) (d : ℕ) (s : List ℕ) (r : Result Found Stop) → ((t : Bor (List ℕ)) (x : Value) → made t x → x ≡ Value.Text t) → IfOk r (TextSaid made s) → IfErr r (Stopped Texts s) → Came 43 d s r
came_text made d s r is read stopped =
    MatchResult-from_both r (λ f. Finds d (43 ∷ s) f) (λ e. Stopped (After 43 d) s e)
    (IfOk-weaker r (TextSaid made s) (λ f. Finds d (43 ∷ s) f) (λ f h. (text h.0.now, h.1, subst (λ x. Means x (text h.0.now)) (sym (is h.0 f.value h.2)) refl, ap (λ l. 43 ∷ l) h.3)) read)
    (IfErr-weaker r (Stopped Texts s) (Stopped (After 43 d) s) (λ e h. back (After 43 d) Texts [] s s e refl (kind_text d s) h) stopped)

pub came_error : (made : Bor (List ℕ) → Value → Type 0) (d : ℕ) (s : List ℕ) (r : Result Found Stop) → ((t : Bor (List ℕ)) (x : Value) → made t x → x ≡ Value.Error t) → IfOk r (TextSaid made s) → IfErr r (Stopped Texts s) → Came 45 d s r
came_error made d s r is read stopped =
    MatchResult-from_both r (λ f. Finds d (45 ∷ s) f) (λ e. Stopped (After 45 d) s e)
    (IfOk-weaker r (TextSaid made s) (λ f. Finds d (45 ∷ s) f) (λ f h. (error h.0.now, h.1, subst (λ x. Means x (error h.0.now)) (sym (is h.0 f.value h.2)) refl, ap (λ l. 45 ∷ l) h.3)) read)
    (IfErr-weaker r (Stopped Texts s) (Stopped (After 45 d) s) (λ e h. back (After 45 d) Texts [] s s e refl (kind_error d s) h) stopped)

-- a bulk string, before and after its head
pub front_bulk : (d : ℕ) (s : List ℕ) → Front (After 36 d) (Heads 0 longest_bulk) s
front_bulk d s =
    record {
      grows = λ v h.
          ⊎_elim
          (λ l.
          let n = l.0 in
          let b : List ℕ = replicate n 0 in
          let long : length b ≡ n = length-replicate n 0 in
          (b ++ crlf, (bulk b, (omega (arith, l.1.1), zeros n), ap (λ x. 36 ∷ (x ++ (b ++ crlf))) l.2 ∙ ap (λ k. 36 ∷ ((decimal k ++ crlf) ++ (b ++ crlf))) (sym long))))
          (λ e. ([], (nil, tt, ap (λ x. 36 ∷ x) (append-nil v ∙ e))))
          h;
      parts = λ w l.
          let q = mark_is l.0 36 w l.2 in
          ⊎_elim
          (λ a.
          let law : Bulk a.0 = subst (λ u. Lawful u d) a.1 l.1 in
          (decimal (length a.0) ++ crlf, a.0 ++ crlf, inl (length a.0, (omega arith, law.0), refl), q.1 ∙ ap rest_of a.1))
          (λ a. (nil_text ++ crlf, [], inr refl, q.1 ∙ ap rest_of a))
          (as_bulk l.0 q.0);
    }

pub back_bulk : (d n : ℕ) (s : List ℕ) → n ≤ longest_bulk → Back (After 36 d) (Filled n) (decimal n ++ crlf) s
back_bulk d n s h =
    record {
      joins = λ v l. (bulk l.0, (omega (arith, l.1.0), l.1.1), ap (λ x. 36 ∷ ((decimal n ++ crlf) ++ x)) l.2 ∙ ap (λ k. 36 ∷ ((decimal k ++ crlf) ++ (l.0 ++ crlf))) (sym l.1.0));
      leads = λ c r at w t r' l e.
          let q = mark_is l.0 36 w l.2 in
          ⊎_elim
          (λ a.
          let law : Bulk a.0 = subst (λ u. Lawful u d) a.1 l.1 in
          let is : w ≡ (decimal (length a.0) ++ crlf) ++ (a.0 ++ crlf) = q.1 ∙ ap rest_of a.1 in
          let same : length a.0 ≡ n = number_free n (length a.0) (c ∷ r') ((a.0 ++ crlf) ++ t) (omega arith) (omega (arith, law.0)) (sym (append_assoc (decimal (length a.0) ++ crlf) (a.0 ++ crlf) t) ∙ ap (λ x. x ++ t) (sym is) ∙ e) in
          (a.0 ++ crlf, (a.0, (same, law.1), refl), is ∙ ap (λ k. (decimal k ++ crlf) ++ (a.0 ++ crlf)) same))
          (λ a.
          let is : w ≡ nil_text ++ crlf = q.1 ∙ ap rest_of a in
          let i = leads_digit n 45 (c ∷ r') ((49 ∷ crlf) ++ t) (omega arith) (sym e ∙ ap (λ x. x ++ t) is) in
          absurd (omega arith))
          (as_bulk l.0 q.0);
    }

-- from what stands behind a mark to the whole
pub marked : (d m b : ℕ) (s rest : List ℕ) (r : Result Found Stop) → s ≡ b ∷ rest → b ≡ m → Came m d rest r → MatchResult r (λ f. Finds d s f) (λ e. Stopped (Says d) s e)
marked d m b s rest r is same h =
    let whole : s ≡ m ∷ rest = is ∙ ap (λ k. k ∷ rest) same in
    MatchResult-weaker r h
    (λ f g. (g.0, g.1, g.2, whole ∙ g.3))
    (λ e g. back (Says d) (After m d) (m ∷ []) rest s e whole (back_mark m d rest) g)

-- no value has another mark, nor an array where none may stand
no_other : (c : ℕ) (v : Reply) → (c ≡ 43 → ⊥) → (c ≡ 45 → ⊥) → (c ≡ 58 → ⊥) → (c ≡ 36 → ⊥) → (c ≡ 42 → ⊥) → mark_of v ≡ c → ⊥
no_other c (text t) p q r s a e = p (sym e)
no_other c (error t) p q r s a e = q (sym e)
no_other c (integer z) p q r s a e = r (sym e)
no_other c (bulk b) p q r s a e = s (sym e)
no_other c nil p q r s a e = s (sym e)
no_other c nil_array p q r s a e = a (sym e)
no_other c (array vs) p q r s a e = a (sym e)

pub other_mark : (d c : ℕ) (s rest : List ℕ) → s ≡ c ∷ rest → (c ≡ 43 → ⊥) → (c ≡ 45 → ⊥) → (c ≡ 58 → ⊥) → (c ≡ 36 → ⊥) → (c ≡ 42 → ⊥) → Stopped (Says d) s (At (length s))
other_mark d c s rest is p q r b a =
    (0, omega arith, subst (λ x. Strays (Says d) x 0) (sym is) (no_mark d c rest (λ v l e. no_other c v p q r b a e)))

no_array : (d c : ℕ) (v : Reply) → d ≡ 0 → c ≡ 42 → Lawful v d → mark_of v ≡ c → ⊥
no_array zero c v h k l e =
    ⊎_elim
    (λ a. subst (λ u. Lawful u 0) a.1 l)
    (λ a. let bad : 1 ≤ 0 = subst (λ u. Lawful u 0) a l in omega arith)
    (as_array v (e ∙ k))
no_array (suc d) c v h k l e = absurd (omega arith)

pub array_mark : (d c : ℕ) (s rest : List ℕ) → s ≡ c ∷ rest → d ≡ 0 → c ≡ 42 → Stopped (Says d) s (At (length s))
array_mark d c s rest is h k =
    (0, omega arith, subst (λ x. Strays (Says d) x 0) (sym is) (no_mark d c rest (λ v l e. no_array d c v h k l e)))
