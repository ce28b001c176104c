-- The laws of `Lists`: what a look-up answers after a change, how many elements are held, and that equal look-ups are equal lists.
use Rattle.std.proofs.Common.{◌≡◌, ◌+◌, ◌<◌, true, false, cond, List, [], ◌∷◌, length, Decides, Ordering, Less, Equal, Greater, sym, refl, ap, ◌∙◌, subst, true≢false, arith}
use Rattle.std.specs.Ordering.{is_eq, ordering_reverse, match_ordering as by_order}
use Rattle.order.specs.Keys.{Key, key_order}
use Rattle.order.specs.KeyLaws.{key_order_lawful}
use Rattle.store.specs.Lists.{Value, Lists, at, lead, put, held, Above, Canonical}

-- ---- the order of keys, in the words of the look-up

pub order_self : (k : Key) → key_order k k ≡ Equal
order_self k = key_order_lawful.itself k

pub order_exact : (a b : Key) → key_order a b ≡ Equal → a ≡ b
order_exact a b h = key_order_lawful.exact a b h

pub order_trans : (a b c : Key) → key_order a b ≡ Less → key_order b c ≡ Less → key_order a c ≡ Less
order_trans a b c h g = key_order_lawful.chained a b c h g

pub order_turn : (a b : Key) → key_order a b ≡ Greater → key_order b a ≡ Less
order_turn a b h = key_order_lawful.turned a b ∙ ap ordering_reverse h

pub order_back : (a b : Key) → key_order a b ≡ Less → key_order b a ≡ Greater
order_back a b h = key_order_lawful.turned a b ∙ ap ordering_reverse h

pub order_apart : (a b : Key) → (a ≡ b → ⊥) → is_eq (key_order a b) ≡ false
order_apart a b n = go (key_order a b) refl
  where
    go : (o : Ordering) → key_order a b ≡ o → is_eq o ≡ false
    go Less e = refl
    go Equal e = absurd (n (order_exact a b e))
    go Greater e = refl

pub order_same : (a b : Key) → a ≡ b → is_eq (key_order a b) ≡ true
order_same a b e = ap is_eq (ap (λ x. key_order a x) (sym e) ∙ order_self a)

pub same_decides : (a b : Key) → Decides (is_eq (key_order a b)) (a ≡ b)
same_decides a b = (yes' (key_order a b) refl, order_same a b)
  where
    yes' : (o : Ordering) → key_order a b ≡ o → is_eq o ≡ true → a ≡ b
    yes' Less e h = absurd (true≢false (sym h))
    yes' Equal e h = order_exact a b e
    yes' Greater e h = absurd (true≢false (sym h))

pub below_apart : (a b : Key) → key_order a b ≡ Less → a ≡ b → ⊥
below_apart a b h e = true≢false (sym (ap is_eq (sym h ∙ ap (λ x. key_order a x) (sym e) ∙ order_self a)))

-- ---- keys above a key

pub above_less : (j k : Key) (es : Lists) → key_order j k ≡ Less → Above k es → Above j es
unfolding Above
above_less j k [] h a = tt
above_less j k (e ∷ es) h a = (order_trans j k e.0 h a.0, above_less j k es h a.1)

pub above_lead : (j k : Key) (vs : List Value) (es : Lists) → key_order j k ≡ Less → Above j es → Above j (lead k vs es)
unfolding Above lead
above_lead j k [] es h a = a
above_lead j k (v ∷ vs) es h a = (h, a)

pub above_put : (j k : Key) (vs : List Value) (es : Lists) → key_order j k ≡ Less → Above j es → Above j (put es k vs)
unfolding put Above
above_put j k vs [] h a = above_lead j k vs [] h a
above_put j k vs (e ∷ es) h a = go (above_put j k vs es h a.1) (key_order k e.0)
  where
    go : Above j (put es k vs) → (o : Ordering) → Above j (by_order o (lead k vs (e ∷ es)) (lead k vs es) (e ∷ put es k vs))
    go ih Less = above_lead j k vs (e ∷ es) h a
    go ih Equal = above_lead j k vs es h a.1
    go ih Greater = (a.0, ih)

pub at_above : (k : Key) (es : Lists) → Above k es → at es k ≡ []
unfolding at Above
at_above k [] a = refl
at_above k (e ∷ es) a = ap (λ o. cond (is_eq o) e.1 (at es k)) a.0 ∙ at_above k es a.1

-- ---- look-ups

at_lead_same : (k : Key) (vs : List Value) (es : Lists) → Above k es → at (lead k vs es) k ≡ vs
unfolding at lead
at_lead_same k [] es a = at_above k es a
at_lead_same k (v ∷ vs) es a = ap (λ o. cond (is_eq o) (v ∷ vs) (at es k)) (order_self k)

at_lead_other : (k q : Key) (vs : List Value) (es : Lists) → (q ≡ k → ⊥) → at (lead k vs es) q ≡ at es q
unfolding at lead
at_lead_other k q [] es n = refl
at_lead_other k q (v ∷ vs) es n = ap (λ b. cond b (v ∷ vs) (at es q)) (order_apart q k n)

pub at_put_same : (es : Lists) (k : Key) (vs : List Value) → Canonical es → at (put es k vs) k ≡ vs
unfolding put at Canonical Above
at_put_same [] k vs c = at_lead_same k vs [] tt
at_put_same (e ∷ es) k vs c = go (at_put_same es k vs c.2) (key_order k e.0) refl
  where
    go : at (put es k vs) k ≡ vs → (o : Ordering) → key_order k e.0 ≡ o → at (by_order o (lead k vs (e ∷ es)) (lead k vs es) (e ∷ put es k vs)) k ≡ vs
    go ih Less h = at_lead_same k vs (e ∷ es) (h, above_less k e.0 es h c.1)
    go ih Equal h = at_lead_same k vs es (subst (λ x. Above x es) (sym (order_exact k e.0 h)) c.1)
    go ih Greater h = ap (λ o. cond (is_eq o) e.1 (at (put es k vs) k)) h ∙ ih

pub at_put_other : (es : Lists) (k q : Key) (vs : List Value) → (q ≡ k → ⊥) → at (put es k vs) q ≡ at es q
unfolding put at
at_put_other [] k q vs n = at_lead_other k q vs [] n
at_put_other (e ∷ es) k q vs n = go (at_put_other es k q vs n) (key_order k e.0) refl
  where
    go : at (put es k vs) q ≡ at es q → (o : Ordering) → key_order k e.0 ≡ o → at (by_order o (lead k vs (e ∷ es)) (lead k vs es) (e ∷ put es k vs)) q ≡ at (e ∷ es) q
    go ih Less h = at_lead_other k q vs (e ∷ es) n
    go ih Equal h = at_lead_other k q vs es n ∙ sym (ap (λ b. cond b e.1 (at es q)) (order_apart q e.0 (λ p. n (p ∙ sym (order_exact k e.0 h)))))
    go ih Greater h = ap (λ x. cond (is_eq (key_order q e.0)) e.1 x) ih

-- ---- put keeps the form

canonical_lead : (k : Key) (vs : List Value) (es : Lists) → Above k es → Canonical es → Canonical (lead k vs es)
unfolding lead Canonical
canonical_lead k [] es a c = c
canonical_lead k (v ∷ vs) es a c = (omega arith, a, c)

pub canonical_put : (es : Lists) (k : Key) (vs : List Value) → Canonical es → Canonical (put es k vs)
unfolding put Canonical Above
canonical_put [] k vs c = canonical_lead k vs [] tt tt
canonical_put (e ∷ es) k vs c = go (canonical_put es k vs c.2) (key_order k e.0) refl
  where
    go : Canonical (put es k vs) → (o : Ordering) → key_order k e.0 ≡ o → Canonical (by_order o (lead k vs (e ∷ es)) (lead k vs es) (e ∷ put es k vs))
    go ih Less h = canonical_lead k vs (e ∷ es) (h, above_less k e.0 es h c.1) c
    go ih Equal h = canonical_lead k vs es (subst (λ x. Above x es) (sym (order_exact k e.0 h)) c.1) c.2
    go ih Greater h = (c.0, above_put e.0 k vs es (order_turn k e.0 h) c.1, ih)

-- ---- what put adds and takes

held_lead : (k : Key) (vs : List Value) (es : Lists) → held (lead k vs es) ≡ length vs + held es
unfolding lead held
held_lead k [] es = omega arith
held_lead k (v ∷ vs) es = refl

pub held_put : (es : Lists) (k : Key) (vs : List Value) → Canonical es → held (put es k vs) + length (at es k) ≡ held es + length vs
unfolding put held at Canonical Above
held_put [] k vs c = omega (arith, held_lead k vs [])
held_put (e ∷ es) k vs c = go (held_put es k vs c.2) (key_order k e.0) refl
  where
    go : held (put es k vs) + length (at es k) ≡ held es + length vs → (o : Ordering) → key_order k e.0 ≡ o → held (by_order o (lead k vs (e ∷ es)) (lead k vs es) (e ∷ put es k vs)) + length (cond (is_eq o) e.1 (at es k)) ≡ (length e.1 + held es) + length vs
    go ih Less h = let n = ap length (at_above k es (above_less k e.0 es h c.1)) in omega (arith, held_lead k vs (e ∷ es))
    go ih Equal h = omega (arith, held_lead k vs es)
    go ih Greater h = omega arith

-- ---- equal look-ups

at_head : (e : Key × List Value) (es : Lists) → at (e ∷ es) e.0 ≡ e.1
unfolding at
at_head e es = ap (λ o. cond (is_eq o) e.1 (at es e.0)) (order_self e.0)

at_tail : (e : Key × List Value) (es : Lists) (q : Key) → (q ≡ e.0 → ⊥) → at (e ∷ es) q ≡ at es q
unfolding at
at_tail e es q n = ap (λ b. cond b e.1 (at es q)) (order_apart q e.0 n)

filled : (vs : List Value) → 0 < length vs → vs ≡ [] → ⊥
filled vs h e = let n = ap length e in omega arith

cases : (q k : Key) (P : Type 0) → (q ≡ k → P) → ((q ≡ k → ⊥) → P) → P
cases q k P f g = go (key_order q k) refl
  where
    go : (o : Ordering) → key_order q k ≡ o → P
    go Less h = g (below_apart q k h)
    go Equal h = f (order_exact q k h)
    go Greater h = g (λ e. below_apart k q (order_turn q k h) (sym e))

pub same_lists : (ds es : Lists) → Canonical ds → Canonical es → ((q : Key) → at ds q ≡ at es q) → ds ≡ es
unfolding Canonical Above
same_lists [] [] c b h = refl
same_lists [] (e ∷ es) c b h = absurd (filled e.1 b.0 (sym (at_head e es) ∙ sym (h e.0) ∙ at_above e.0 [] tt))
same_lists (d ∷ ds) [] c b h = absurd (filled d.1 c.0 (sym (at_head d ds) ∙ h d.0 ∙ at_above d.0 [] tt))
same_lists (d ∷ ds) (e ∷ es) c b h = go (same_lists ds es c.2 b.2) (key_order d.0 e.0) refl
  where
    go : (((q : Key) → at ds q ≡ at es q) → ds ≡ es) → (o : Ordering) → key_order d.0 e.0 ≡ o → d ∷ ds ≡ e ∷ es
    go ih Less l = absurd (filled d.1 c.0 (sym (at_head d ds) ∙ h d.0 ∙ at_above d.0 (e ∷ es) (l, above_less d.0 e.0 es l b.1)))
    go ih Greater g = let l = order_turn d.0 e.0 g in absurd (filled e.1 b.0 (sym (at_head e es) ∙ sym (h e.0) ∙ at_above e.0 (d ∷ ds) (l, above_less e.0 d.0 ds l c.1)))
    go ih Equal q =
        let k : d.0 ≡ e.0 = order_exact d.0 e.0 q in
        let v : d.1 ≡ e.1 = sym (at_head d ds) ∙ h d.0 ∙ ap (λ x. at (e ∷ es) x) k ∙ at_head e es in
        let r : ds ≡ es = ih (λ x. cases x d.0 (at ds x ≡ at es x)
        (λ p. ap (λ y. at ds y) p ∙ at_above d.0 ds c.1 ∙ sym (at_above e.0 es b.1) ∙ ap (λ y. at es y) (sym (p ∙ k)))
        (λ n. sym (at_tail d ds x n) ∙ h x ∙ at_tail e es x (λ p. n (p ∙ sym k)))) in
        λ i. (k i, v i) ∷ r i

-- what answers as put answers is what put gives
pub put_from_at : (ds es : Lists) (k : Key) (vs : List Value) → Canonical ds → Canonical es → at ds k ≡ vs → ((q : Key) → (q ≡ k → ⊥) → at ds q ≡ at es q) → ds ≡ put es k vs
put_from_at ds es k vs c b h o = same_lists ds (put es k vs) c (canonical_put es k vs b)
    (λ q. cases q k (at ds q ≡ at (put es k vs) q)
    (λ p. ap (λ y. at ds y) p ∙ h ∙ sym (at_put_same es k vs b) ∙ ap (λ y. at (put es k vs) y) (sym p))
    (λ n. o q n ∙ sym (at_put_other es k q vs n)))

pub put_at : (es : Lists) (k : Key) → Canonical es → put es k (at es k) ≡ es
put_at es k c = sym (put_from_at es es k (at es k) c c refl (λ q n. refl))

pub put_put : (es : Lists) (k : Key) (vs ws : List Value) → Canonical es → put (put es k vs) k ws ≡ put es k ws
put_put es k vs ws c = put_from_at (put (put es k vs) k ws) es k ws (canonical_put (put es k vs) k ws (canonical_put es k vs c)) c (at_put_same (put es k vs) k ws (canonical_put es k vs c))
    (λ q n. at_put_other (put es k vs) k q ws n ∙ at_put_other es k q vs n)
