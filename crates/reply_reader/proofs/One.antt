-- At most one answer is right, and what follows from that.
use Rattle.std.proofs.Common.{◌≡◌, ℕ, ◌+◌, ◌-◌, ◌<◌, List, [], ◌∷◌, ◌++◌, length, take, drop, Ok, Err, Result, sym, refl, ap, ◌∙◌, subst, inr, ⊎_elim, append_assoc, append-nil, arith, length-append, take-append-drop}
use Rattle.std.specs.Prelude.{◌⊎◌, MatchResult, IfNone}
use Rattle.std.specs.Result.{result_ok}
use Rattle.wire.proofs.Sets.{shorter}
use Rattle.std.proofs.lemmas.Bool.{cases_order}
use Rattle.reply.specs.Replies.{Reply, array, bytes_of, Lawful, deepest}
use Rattle.reply.proofs.Overs.{from, arrays}
use Rattle.wire.specs.Texts.{Begins, Short, Strays}
use Rattle.reply_reader.specs.Reading.{Says, Means, Answers, NoReply}
use Rattle.reply_reader.specs.Laws.{Settled, Back, ReadsBack}
use Rattle.wire.specs.Steps.{Stopped}
use Rattle.reply_reader.specs.Steps.{Finds}
use Rattle.reply_reader.specs.declared.FirstReply.{FirstReply}
use Rattle.reply_reader.specs.declared.Found.{Found}
use Rattle.wire.specs.declared.stop.ReadError.{ReadError}
use Rattle.wire.specs.declared.stop.ReadError.TheVariants.{More, Fault}
use Rattle.wire.specs.declared.stop.Stop.{Stop}
use Rattle.wire.specs.declared.stop.Stop.TheVariants.{Short as Ended, At}
use Rattle.reply_reader.proofs.Free.{free}

sooner : (s : List ℕ) (p q : ℕ) → p < q → Strays (Says deepest) s p → Strays (Says deepest) s q → ⊥
sooner s p q h x y = x.leaves y.word y.lawful (shorter s y.word (p + 1) q (omega arith) y.begins)

whole_short : (s : List ℕ) (v : Reply) → Lawful v deepest → Begins (bytes_of v) s → Short (Says deepest) s → ⊥
whole_short s v l b h =
    let u = h.lawful.0 in
    let more = b.0 ++ (h.next ∷ h.rest) in
    let e : bytes_of u ≡ bytes_of v ++ more = sym h.lawful.2 ∙ h.split ∙ ap (λ x. x ++ (h.next ∷ h.rest)) b.1 ∙ append_assoc (bytes_of v) b.0 (h.next ∷ h.rest) in
    let same : v ≡ u = free deepest v u l h.lawful.1 more [] (sym e ∙ sym (append-nil (bytes_of u))) in
    omega (arith, ap length e, length-append (bytes_of v) more, length-append b.0 (h.next ∷ h.rest), ap (λ x. length (bytes_of x)) same)

pub no_reply : (s : List ℕ) (e : Stop) → Stopped (Says deepest) s e → NoReply s
no_reply s Ended h v l b = whole_short s v l b h
no_reply s (At k) h v l b = h.2.open_ended (bytes_of v) (v, l, refl) b

-- no reply is read where a step stops
pub unread : (s : List ℕ) (left : ℕ) (r : Result Found Stop) → MatchResult r (λ f. Finds deepest s f) (λ e. Stopped (Says deepest) s e) → IfNone (result_ok r) ((left ≡ 0) ⊎ NoReply s)
unread s left (Ok f) h = tt
unread s left (Err e) h = inr (no_reply s e h)

pub settled : (s : List ℕ) → Settled s
settled s = record {
  took = λ v u lv lu x y. free deepest v u lv lu x.0 y.0 (sym x.1 ∙ y.1);
  took_more = λ v l b h. whole_short s v l b h;
  took_fault = λ v p l b h. h.open_ended (bytes_of v) (v, l, refl) b;
  more_fault = λ p x y.
      let t = x.next ∷ x.rest in
      y.leaves x.word x.lawful (drop (p + 1) s ++ t, x.split ∙ ap (λ l. l ++ t) (sym (take-append-drop (p + 1) s)) ∙ append_assoc (take (p + 1) s) (drop (p + 1) s) t);
  fault = λ p q x y.
      ⊎_elim (λ e. e) (λ o. ⊎_elim (λ l. absurd (sooner s p q l x y)) (λ l. absurd (sooner s q p l y x)) o) (cases_order p q);
}

-- the round trip
back_at : (s : List ℕ) (v : Reply) (a : Result FirstReply ReadError) → Lawful v deepest → Begins (bytes_of v) s → Answers s a → Back v (length (bytes_of v)) a
back_at s v (Ok f) l b h =
    let same : h.0 ≡ v = free deepest h.0 v h.1 l h.3.0 b.0 (sym h.3.1 ∙ b.1) in
    (f.value, ap (λ n. Ok (record { value = f.value; size = n })) (h.4 ∙ ap (λ u. length (bytes_of u)) same), subst (Means f.value) same h.2)
back_at s v (Err More) l b h = absurd (whole_short s v l b h)
back_at s v (Err (Fault p)) l b h = absurd (h.open_ended (bytes_of v) (v, l, refl) b)

pub reads_back : ReadsBack
reads_back = record {
  whole = λ v rest a l h. back_at (bytes_of v ++ rest) v a l (rest, refl) h;
  written = λ v out after at n a w h.
      let e : drop at after ≡ bytes_of v ++ drop (at + length (bytes_of v)) out = ap (drop at) w.3 ∙ from out at (bytes_of v) (omega (arith, w.2)) in
      subst (λ k. Back v k a) (sym w.1) (back_at (drop at after) v a w.0 (drop (at + length (bytes_of v)) out, e) h);
  in_parts = λ vs out mid after at n end a l head w h.
      let v = array vs in
      let all = arrays vs out mid after at n end head w in
      let e : drop at after ≡ bytes_of v ++ drop (at + length (bytes_of v)) out = ap (drop at) all.2 ∙ from out at (bytes_of v) (omega (arith, all.0, all.1)) in
      let size : length (bytes_of v) ≡ end - at = omega (arith, all.0) in
      subst (λ k. Back v k a) size (back_at (drop at after) v a l (drop (at + length (bytes_of v)) out, e) h);
}
