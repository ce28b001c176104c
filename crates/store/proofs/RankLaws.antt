-- The keys of a store by rank, and how the search for the least key above another finds them in rows.
use Rattle.std.proofs.Common.{◌≡◌, ℕ, zero, suc, ◌+◌, ◌<◌, Bool, true, false, cond, List, [], ◌∷◌, length, get_or, Some, None, Option, Less, Greater, sym, refl, ap, ◌∙◌, ⊎_elim, true≢false, arith}
use Rattle.std.specs.Ordering.{is_eq, is_gt}
use Rattle.std.proofs.lemmas.Bool.{cases_eq, cases_order, cases_lt}
use Rattle.order.specs.Keys.{Key, key_order}
use Rattle.order.specs.Orders.{FirstLeast}
use Rattle.store.specs.Lists.{Lists, at, Above, Canonical, keys_of}
use Rattle.store.specs.Rows.{Row, values_of, lists_of, names, AtRank}
use Rattle.store.proofs.ListLaws.{order_same, same_decides, below_apart, order_back}
use Rattle.store.proofs.RowLaws.{canonical_rows, at_rows}

-- ---- the keys of a store, and those of its rows

above_get : (k : Key) (es : Lists) (m : ℕ) → Above k es → m < length (keys_of es) → key_order k (get_or (keys_of es) m []) ≡ Less
unfolding Above
above_get k [] m a l = absurd (omega arith)
above_get k (e ∷ es) zero a l = a.0
above_get k (e ∷ es) (suc m) a l = above_get k es m a.1 (omega arith)

pub ascend : (es : Lists) (i j : ℕ) → Canonical es → i < j → j < length (keys_of es) → key_order (get_or (keys_of es) i []) (get_or (keys_of es) j []) ≡ Less
unfolding Canonical
ascend [] i j c h l = absurd (omega arith)
ascend (e ∷ es) i zero c h l = absurd (omega arith)
ascend (e ∷ es) zero (suc j) c h l = above_get e.0 es j c.1 (omega arith)
ascend (e ∷ es) (suc i) (suc j) c h l = ascend es i j c.2 (omega arith) (omega arith)

found_row : (q : Key) (ps : List Row) → 0 < length (values_of q ps) → (j : ℕ) × (j < length (names ps)) × (get_or (names ps) j [] ≡ q)
unfolding values_of
found_row q [] h = absurd (omega arith)
found_row q (p ∷ ps) h = go (found_row q ps) (is_eq (key_order q p.0)) refl h
  where
    go : (0 < length (values_of q ps) → (j : ℕ) × (j < length (names ps)) × (get_or (names ps) j [] ≡ q)) → (b : Bool) → is_eq (key_order q p.0) ≡ b → 0 < length (cond b (p.1 ∷ values_of q ps) (values_of q ps)) → (j : ℕ) × (j < length (names (p ∷ ps))) × (get_or (names (p ∷ ps)) j [] ≡ q)
    go ih true e l = (zero, omega arith, sym ((same_decides q p.0).0 e))
    go ih false e l = let r = ih l in (suc r.0, omega (arith, r.1), r.2)

row_filled : (ps : List Row) (j : ℕ) → j < length (names ps) → 0 < length (values_of (get_or (names ps) j []) ps)
unfolding values_of
row_filled [] j l = absurd (omega arith)
row_filled (p ∷ ps) zero l = let e = ap (λ b. length (cond b (p.1 ∷ values_of p.0 ps) (values_of p.0 ps))) (order_same p.0 p.0 refl) in omega arith
row_filled (p ∷ ps) (suc j) l = go (row_filled ps j (omega arith)) (is_eq (key_order (get_or (names ps) j []) p.0))
  where
    go : 0 < length (values_of (get_or (names ps) j []) ps) → (b : Bool) → 0 < length (cond b (p.1 ∷ values_of (get_or (names ps) j []) ps) (values_of (get_or (names ps) j []) ps))
    go h true = omega arith
    go h false = h

pub found_key : (q : Key) (es : Lists) → 0 < length (at es q) → (m : ℕ) × (m < length (keys_of es)) × (get_or (keys_of es) m [] ≡ q)
unfolding at
found_key q [] h = absurd (omega arith)
found_key q (e ∷ es) h = go (found_key q es) (is_eq (key_order q e.0)) refl h
  where
    go : (0 < length (at es q) → (m : ℕ) × (m < length (keys_of es)) × (get_or (keys_of es) m [] ≡ q)) → (b : Bool) → is_eq (key_order q e.0) ≡ b → 0 < length (cond b e.1 (at es q)) → (m : ℕ) × (m < length (keys_of (e ∷ es))) × (get_or (keys_of (e ∷ es)) m [] ≡ q)
    go ih true t l = (zero, omega arith, sym ((same_decides q e.0).0 t))
    go ih false t l = let r = ih l in (suc r.0, omega (arith, r.1), r.2)

pub key_filled : (es : Lists) (m : ℕ) → Canonical es → m < length (keys_of es) → 0 < length (at es (get_or (keys_of es) m []))
unfolding at Canonical
key_filled [] m c l = absurd (omega arith)
key_filled (e ∷ es) zero c l = let t = ap (λ b. length (cond b e.1 (at es e.0))) (order_same e.0 e.0 refl) in omega (arith, c.0)
key_filled (e ∷ es) (suc m) c l = go (key_filled es m c.2 (omega arith)) (is_eq (key_order (get_or (keys_of es) m []) e.0))
  where
    go : 0 < length (at es (get_or (keys_of es) m [])) → (b : Bool) → 0 < length (cond b e.1 (at es (get_or (keys_of es) m [])))
    go h true = c.0
    go h false = h

pub to_rank : (ps : List Row) (j : ℕ) → j < length (names ps) → (m : ℕ) × (m < length (keys_of (lists_of ps))) × (get_or (keys_of (lists_of ps)) m [] ≡ get_or (names ps) j [])
to_rank ps j l = found_key (get_or (names ps) j []) (lists_of ps) (omega (arith, row_filled ps j l, ap length (at_rows (get_or (names ps) j []) ps)))

pub of_rank : (ps : List Row) (m : ℕ) → m < length (keys_of (lists_of ps)) → (j : ℕ) × (j < length (names ps)) × (get_or (names ps) j [] ≡ get_or (keys_of (lists_of ps)) m [])
of_rank ps m l = found_row (get_or (keys_of (lists_of ps)) m []) ps (omega (arith, key_filled (lists_of ps) m (canonical_rows ps) l, ap length (at_rows (get_or (keys_of (lists_of ps)) m []) ps)))

-- ---- the search by rank

module _ (ps : List Row) where
  up : (i j : ℕ) → i < j → j < length (keys_of (lists_of ps)) → key_order (get_or (keys_of (lists_of ps)) i []) (get_or (keys_of (lists_of ps)) j []) ≡ Less
  up i j h l = ascend (lists_of ps) i j (canonical_rows ps) h l

  not_both : (a b : Key) → key_order a b ≡ Less → key_order a b ≡ Greater → ⊥
  not_both a b h g = true≢false (sym (ap is_gt (sym h ∙ g)))

  over_next : (i m : ℕ) → m < length (keys_of (lists_of ps)) → i < length (keys_of (lists_of ps)) → key_order (get_or (keys_of (lists_of ps)) i []) (get_or (keys_of (lists_of ps)) m []) ≡ Less → i < m
  over_next i m l k h = ⊎_elim
      (λ e. absurd (below_apart _ _ h (ap (λ x. get_or (keys_of (lists_of ps)) x []) e)))
      (⊎_elim (λ e. e) (λ e. absurd (not_both _ _ h (order_back _ _ (up m i e k)))))
      (cases_order i m)

  -- the least name is the first key
  pub rank_first : (r : Option ℕ) → FirstLeast key_order (λ _. Unit {0}) (length (names ps)) (λ j. get_or (names ps) j []) r → AtRank ps 0 r
  rank_first None h = ⊎_elim (λ e. omega arith) (λ e. let j = of_rank ps 0 (omega arith) in absurd (h j.0 j.1 tt)) (cases_eq (length (keys_of (lists_of ps))) 0)
  rank_first (Some b) h =
      let m = to_rank ps b h.0 in (
        h.0,
        omega (arith, m.1),
        ⊎_elim
            (λ e. sym m.2 ∙ ap (λ x. get_or (keys_of (lists_of ps)) x []) e)
            (λ e. let j = of_rank ps 0 (omega (arith, m.1)) in
            absurd (h.2 j.0 j.1 tt ((λ i. key_order (j.2 i) (sym m.2 i)) ∙ up 0 m.0 (omega arith) m.1)))
            (cases_eq m.0 0),
      )

  -- the least name after a key is the next key
  pub rank_next : (i a : ℕ) (r : Option ℕ) → AtRank ps i (Some a) → FirstLeast key_order (λ v. key_order (get_or (names ps) a []) v ≡ Less) (length (names ps)) (λ j. get_or (names ps) j []) r → AtRank ps (i + 1) r
  rank_next i a None w h = ⊎_elim
      (λ e. let j = of_rank ps (i + 1) e in absurd (h j.0 j.1 ((λ x. key_order (w.2 x) (j.2 x)) ∙ up i (i + 1) (omega arith) e)))
      (λ e. e)
      (cases_lt (i + 1) (length (keys_of (lists_of ps))))
  rank_next i a (Some b) w h =
      let m = to_rank ps b h.0 in
      let l : i < m.0 = over_next i m.0 m.1 w.1 ((λ x. key_order (sym w.2 x) (m.2 x)) ∙ h.1) in (
        h.0,
        omega (arith, m.1),
        ⊎_elim
            (λ e. sym m.2 ∙ ap (λ x. get_or (keys_of (lists_of ps)) x []) e)
            (λ e. let f : i + 1 < m.0 = omega arith in
            let g : i + 1 < length (keys_of (lists_of ps)) = omega (arith, m.1) in
            let j = of_rank ps (i + 1) g in
            absurd (h.2 j.0 j.1 ((λ x. key_order (w.2 x) (j.2 x)) ∙ up i (i + 1) (omega arith) g) ((λ x. key_order (j.2 x) (sym m.2 x)) ∙ up (i + 1) m.0 f m.1)))
            (cases_eq m.0 (i + 1)),
      )
