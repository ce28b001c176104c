-- How the end of a step is carried to the whole that the step is a part of.
use Rattle.std.proofs.Common.{Ok, ◌≡◌, ℕ, zero, suc, ◌+◌, ◌<◌, ◌≤◌, true, false, eqb, ◌⊎◌, List, [], ◌∷◌, ◌++◌, length, take, drop, sym, refl, ap, ◌∙◌, subst, inl, inr, ⊎_elim, append_assoc, append-nil, add_assoc, add-one, arith, length-append, take-append-drop}
use Rattle.std.specs.Prelude.{None, Some, Option, MatchOption, IfErr}
use Rattle.std.specs.Option.{ok_or}
use Rattle.std.proofs.Math.Seq.{take-append-add}
use Rattle.std.proofs.lemmas.List.{append_cancel_left, take-take}
use Rattle.std.proofs.lemmas.Bool.{eqb-true}
use Rattle.wire.specs.Texts.{Begins, Short, Strays}
use Rattle.wire.specs.Steps.{Stopped, Just}
use Rattle.wire.specs.declared.stop.Stop.{Stop}
use Rattle.wire.specs.declared.stop.Stop.TheVariants.{Short as Ended, At}

-- a step that found nothing
pub missed : {X E : Type 0} (o : Option X) (e : E) (P : Type 0) (Q : X → Type 0) (R : E → Type 0) → MatchOption o P Q → (P → R e) → IfErr (ok_or o e) R
missed None e P Q R m f = f m
missed (Some x) e P Q R m f = tt

-- a step that found something
pub found : {X E : Type 0} (o : Option X) (e : E) (P : Type 0) (Q : X → Type 0) (x : X) → MatchOption o P Q → ok_or o e ≡ Ok x → Q x
found None e P Q x m is = absurd cc
found (Some y) e P Q x m is = let same : y ≡ x = cc in subst Q same m

pub empty : (s : List ℕ) → length s ≡ 0 → s ≡ []
empty [] h = refl
empty (c ∷ s) h = absurd (omega arith)

pub is_empty : (s : List ℕ) → true ≡ eqb (length s) 0 → s ≡ []
is_empty s h = empty s (eqb-true (length s) 0 (sym h))

pub not_empty : (s : List ℕ) → false ≡ eqb (length s) 0 → 0 < length s
not_empty [] h = let bad : ◌≡◌ {A = ℕ} 0 1 = cc in absurd (omega arith)
not_empty (c ∷ s) h = omega arith

-- of two beginnings of one text, one begins the other
pub meet : (xs ys s t : List ℕ) → xs ++ s ≡ ys ++ t → Begins xs ys ⊎ Begins ys xs
meet [] ys s t e = inl (ys, refl)
meet (x ∷ xs) [] s t e = inr (x ∷ xs, refl)
meet (x ∷ xs) (y ∷ ys) s t e =
    let h : x ≡ y = cc in
    let r : xs ++ s ≡ ys ++ t = cc in
    ⊎_elim (λ b. inl (b.0, cc b.1)) (λ b. inr (b.0, cc b.1)) (meet xs ys s t r)

pub beyond : (xs ys zs : List ℕ) → Begins xs ys → Begins xs (ys ++ zs)
beyond xs ys zs b = (b.0 ++ zs, ap (λ l. l ++ zs) b.1 ∙ append_assoc xs b.0 zs)

-- beginnings of a beginning
pub begun : (s w : List ℕ) (m : ℕ) → Begins s w → Begins (take m s) w
begun s w m b = (drop m s ++ b.0, b.1 ∙ ap (λ l. l ++ b.0) (sym (take-append-drop m s)) ∙ append_assoc (take m s) (drop m s) b.0)

pub shorter : (s w : List ℕ) (m n : ℕ) → m ≤ n → Begins (take n s) w → Begins (take m s) w
shorter s w m n h b = subst (λ x. Begins x w) (take-take m n s h) (begun (take n s) w m b)

module _ (L P : List ℕ → Type 0) (s : List ℕ) where
  -- P is a front part of L
  pub record Front : Type 0 where
    pub grows : (v : List ℕ) → P v → (t : List ℕ) × L (v ++ t)
    pub parts : (w : List ℕ) → L w → (v t : List ℕ) × P v × (w ≡ v ++ t)

  front_short : Front → Short P s → Short L s
  front_short f h =
      let g = f.grows h.word h.lawful in
      record {
        word = h.word ++ g.0;
        lawful = g.1;
        next = h.next;
        rest = h.rest ++ g.0;
        split = ap (λ l. l ++ g.0) h.split ∙ append_assoc s (h.next ∷ h.rest) g.0;
      }

  pub front_strays : (p : ℕ) → Front → Strays P s p → Strays L s p
  front_strays p f h =
      let g = f.grows h.word h.lawful in
      record {
        word = h.word ++ g.0;
        lawful = g.1;
        begins = beyond (take p s) h.word g.0 h.begins;
        leaves = λ w l b.
            let c = f.parts w l in
            ⊎_elim
            (λ inside. h.open_ended c.0 c.2 (subst (Begins c.0) (take-append-drop (p + 1) s) (beyond c.0 (take (p + 1) s) (drop (p + 1) s) inside)))
            (λ past. h.leaves c.0 c.2 past)
            (meet c.0 (take (p + 1) s) c.1 b.0 (sym c.3 ∙ b.1));
        open_ended = λ w l b.
            let c = f.parts w l in
            h.open_ended c.0 c.2 (subst (λ x. Begins c.0 x) (sym b.1) (beyond c.0 w b.0 (c.1, c.3)));
      }

  pub front : (e : Stop) → Front → Stopped P s e → Stopped L s e
  front Ended f h = front_short f h
  front (At k) f h = (h.0, h.1, front_strays h.0 f h.2)

module _ (L R : List ℕ → Type 0) (u s : List ℕ) where
  -- R is what is left of L after u, before s
  pub record Back : Type 0 where
    pub joins : (v : List ℕ) → R v → L (u ++ v)
    pub leads : (c : ℕ) (r : List ℕ) → s ≡ c ∷ r → (w t r' : List ℕ) → L w → w ++ t ≡ u ++ (c ∷ r') → (v : List ℕ) × R v × (w ≡ u ++ v)

  back_short : Back → Short R s → Short L (u ++ s)
  back_short f h =
      record {
        word = u ++ h.word;
        lawful = f.joins h.word h.lawful;
        next = h.next;
        rest = h.rest;
        split = ap (λ l. u ++ l) h.split ∙ sym (append_assoc u s (h.next ∷ h.rest));
      }

-- a text that strays is not empty
some : (R : List ℕ → Type 0) (s : List ℕ) (p : ℕ) → Strays R s p → (c : ℕ) × (r : List ℕ) × (s ≡ c ∷ r)
some R [] zero h = absurd (h.leaves h.word h.lawful h.begins)
some R [] (suc p) h = absurd (h.leaves h.word h.lawful (subst (λ n. Begins (take n []) h.word) (sym (add-one (suc p))) h.begins))
some R (c ∷ r) p h = (c, r, refl)

module _ (L R : List ℕ → Type 0) (u s : List ℕ) where
  pub back_strays : (p : ℕ) → Back L R u s → Strays R s p → Strays L (u ++ s) (length u + p)
  back_strays p f h =
      let first = some R s p h in
      let c = first.0 in
      let r = first.1 in
      let is : s ≡ c ∷ r = first.2 in
      let longer : take (length u + p + 1) (u ++ s) ≡ u ++ take (p + 1) s = ap (λ n. take n (u ++ s)) (add_assoc (length u) p 1) ∙ take-append-add u s (p + 1) in
      let first_more : take (p + 1) s ≡ c ∷ take p r = ap (λ n. take n s) (add-one p) ∙ ap (take (suc p)) is in
      record {
        word = u ++ h.word;
        lawful = f.joins h.word h.lawful;
        begins = (h.begins.0, ap (λ l. u ++ l) h.begins.1 ∙ sym (append_assoc u (take p s) h.begins.0) ∙ ap (λ l. l ++ h.begins.0) (sym (take-append-add u s p)));
        leaves = λ w l b.
            let whole : w ≡ u ++ (take (p + 1) s ++ b.0) = b.1 ∙ ap (λ x. x ++ b.0) longer ∙ append_assoc u (take (p + 1) s) b.0 in
            let v = f.leads c r is w [] (take p r ++ b.0) l (append-nil w ∙ whole ∙ ap (λ x. u ++ (x ++ b.0)) first_more) in
            h.leaves v.0 v.1 (b.0, append_cancel_left u v.0 (take (p + 1) s ++ b.0) (sym v.2 ∙ whole));
        open_ended = λ w l b.
            let v = f.leads c r is w b.0 r l (sym b.1 ∙ ap (λ x. u ++ x) is) in
            h.open_ended v.0 v.1 (b.0, append_cancel_left u s (v.0 ++ b.0) (b.1 ∙ ap (λ x. x ++ b.0) v.2 ∙ append_assoc u v.0 b.0));
      }

  back_at : (e : Stop) → Back L R u s → Stopped R s e → Stopped L (u ++ s) e
  back_at Ended f h = back_short L R u s f h
  back_at (At k) f h = (length u + h.0, add_assoc (length u) h.0 k ∙ ap (λ n. length u + n) h.1 ∙ sym (length-append u s), back_strays h.0 f h.2)

  -- from what is left of a text to the text
  pub back : (whole : List ℕ) (e : Stop) → whole ≡ u ++ s → Back L R u s → Stopped R s e → Stopped L whole e
  back whole e is f h = subst (λ x. Stopped L x e) (sym is) (back_at e f h)

-- one byte
pub byte_short : (b : ℕ) (s : List ℕ) → s ≡ [] → Short (Just (b ∷ [])) s
byte_short b s h = record { word = b ∷ []; lawful = refl; next = b; rest = []; split = ap (λ l. l ++ (b ∷ [])) (sym h) }

pub byte_other : (b c : ℕ) (r : List ℕ) → (c ≡ b → ⊥) → Strays (Just (b ∷ [])) (c ∷ r) 0
byte_other b c r ne =
    record {
      word = b ∷ [];
      lawful = refl;
      begins = (b ∷ [], refl);
      leaves = λ w l t. let e : b ∷ [] ≡ c ∷ t.0 = sym l ∙ t.1 in ne (cc);
      open_ended = λ w l t. let e : c ∷ r ≡ b ∷ t.0 = t.1 ∙ ap (λ x. x ++ t.0) l in ne (cc);
    }

pub byte_strays : (b c : ℕ) (s r : List ℕ) → s ≡ c ∷ r → (c ≡ b → ⊥) → Stopped (Just (b ∷ [])) s (At (length s))
byte_strays b c s r is ne = (0, omega arith, subst (λ x. Strays (Just (b ∷ [])) x 0) (sym is) (byte_other b c r ne))

-- one text, in two parts
pub front_just : (u v s : List ℕ) → Front (Just (u ++ v)) (Just u) s
front_just u v s = record { grows = λ w e. (v, ap (λ l. l ++ v) e); parts = λ w e. (u, v, refl, e) }

pub back_just : (u v s : List ℕ) → Back (Just (u ++ v)) (Just v) u s
back_just u v s = record { joins = λ w e. ap (λ l. u ++ l) e; leads = λ c r is w t r' e m. (v, refl, e) }
