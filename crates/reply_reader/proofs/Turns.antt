-- Elements come in their order.
use Rattle.std.proofs.Common.{◌≡◌, ℕ, zero, suc, ◌++◌, Some, None, Option, sym, refl, ap, ◌∙◌, subst, ⊎_elim, arith}
use Rattle.std.proofs.lemmas.List.{append_cancel_left}
use Rattle.reply.specs.Replies.{Reply, Replies, text, error, integer, bulk, nil, nil_array, array, none, then, bytes_of, row_of, Lawful, EachLawful, deepest}
use Rattle.reply_reader.specs.Reading.{Means, Gives, Next}
use Rattle.reply_reader.specs.Laws.{elements_of, Comes, ElementLaws}
use Rattle.reply_reader.specs.declared.Value.{Value}
use Rattle.reply_reader.specs.declared.Value.TheVariants.{Text, Error, Integer, Bulk, Nil, NilArray, Array}
use Rattle.reply_reader.specs.declared.Elements.{Elements}
use Rattle.reply_reader.proofs.Free.{free}

mutual
  wider : (v : Reply) (d : ℕ) → Lawful v d → Lawful v (suc d)
  wider (text t) d l = l
  wider (error t) d l = l
  wider (integer z) d l = l
  wider (bulk b) d l = l
  wider nil d l = tt
  wider nil_array d l = omega arith
  wider (array vs) zero l = absurd l
  wider (array vs) (suc d) l = (l.0, each_wider vs d l.1)

  each_wider : (vs : Replies) (d : ℕ) → EachLawful vs d → EachLawful vs (suc d)
  each_wider none d l = tt
  each_wider (then v vs) d l = (wider v d l.0, each_wider vs d l.1)

none_come : (v u : Reply) (e : Elements) → v ≡ u → elements_of u ≡ none → (e.left ≡ 0) × (e.rest.now ≡ row_of none) → Comes e (elements_of v)
none_come v u e is no-elements g =
    subst (Comes e) (sym (ap elements_of is ∙ no-elements)) (record { counted = g.0; bytes = g.1; lawful = tt })

gives : (x : Value) (v : Reply) (e : Elements) → Lawful v deepest → Means x v → Gives x e → Comes e (elements_of v)
gives (Text t) v e l m g = none_come v (text t.now) e m refl g
gives (Error t) v e l m g = none_come v (error t.now) e m refl g
gives (Integer z) v e l m g = none_come v (integer z) e m refl g
gives (Bulk b) v e l m g = none_come v (bulk b.now) e m refl g
gives Nil v e l m g = none_come v nil e m refl g
gives NilArray v e l m g = none_come v nil_array e m refl g
gives (Array part n) v e l m g =
    let vs = m.0 in
    let law : Lawful (array vs) deepest = subst (λ u. Lawful u deepest) m.1 l in
    subst (λ u. Comes e (elements_of u)) (sym m.1) (record { counted = g.0 ∙ m.2; bytes = g.1 ∙ m.3; lawful = each_wider vs 3 law.1 })

turn : (e after : Elements) (r : Option Value) (v : Reply) (vs : Replies) → Comes e (then v vs) → Next e r after → (x : Value) × (r ≡ Some x) × Means x v × Comes after vs
turn e after (Some x) v vs c h =
    let whole : bytes_of h.0 ++ after.rest.now ≡ bytes_of v ++ row_of vs = sym h.3 ∙ c.bytes in
    let same : h.0 ≡ v = free deepest h.0 v h.1 c.lawful.0 after.rest.now (row_of vs) whole in (
      x,
      refl,
      subst (Means x) same h.2,
      record {
        counted = omega (arith, h.4, c.counted);
        bytes = append_cancel_left (bytes_of v) after.rest.now (row_of vs) (ap (λ u. bytes_of u ++ after.rest.now) (sym same) ∙ whole);
        lawful = c.lawful.1;
      },
    )
turn e after None v vs c h =
    ⊎_elim (λ z. absurd (omega (arith, c.counted))) (λ no_reply. absurd (no_reply v c.lawful.0 (row_of vs, c.bytes))) h.0

ends : (e after : Elements) (r : Option Value) → Comes e none → Next e r after → r ≡ None
ends e after (Some x) c h = absurd (omega (arith, h.4, c.counted))
ends e after None c h = refl

pub element_laws : ElementLaws
element_laws = record { gives = gives; turn = turn; ends = ends }
