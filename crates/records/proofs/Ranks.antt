-- The keys of the records in use by rank, and how the search for the least key after another finds them.
use Rattle.std.proofs.Common.{◌≡◌, ℕ, zero, suc, ◌+◌, ◌<◌, ◌≤◌, Bool, true, false, cond, List, [], ◌∷◌, length, get_or, Some, None, Option, Less, sym, refl, ap, ◌∙◌, subst, ⊎_elim, arith}
use Rattle.std.specs.Ordering.{is_eq}
use Rattle.std.proofs.lemmas.Bool.{cases_eq, cases_order}
use Rattle.order.specs.Keys.{Key, key_order}
use Rattle.order.specs.Orders.{FirstLeast, After, Next}
use Rattle.order.specs.Orders.{Ranked as Rank}
use Rattle.store.specs.Lists.{keys_of}
use Rattle.store.specs.Rows.{Row, values_of}
use Rattle.store.proofs.ListLaws.{order_same, same_decides, below_apart, order_back}
use Rattle.store.proofs.RowLaws.{canonical_rows, at_rows}
use Rattle.store.proofs.RankLaws.{ascend, found_key, key_filled}
use Rattle.records.specs.declared.record.ListRecord.{ListRecord}
use Rattle.records.specs.Records.{key_at, first_at, Has, mark, marks, marked, Ranked, reading, reading_of, used_order}
use Rattle.records.proofs.Places.{blank, reading_read}

-- ---- the keys of the rows, and those of the records

mark_here : (n : ℕ) (k : Key) (ps : List Row) → (n ≡ 0 → ⊥) → 0 < length (values_of k (mark n k ps))
unfolding values_of
mark_here zero k ps u = absurd (u refl)
mark_here (suc n) k ps u = let e = ap (λ b. length (cond b ([] ∷ values_of k ps) (values_of k ps))) (order_same k k refl) in omega arith

mark_more : (n : ℕ) (k q : Key) (ps : List Row) → 0 < length (values_of q ps) → 0 < length (values_of q (mark n k ps))
unfolding values_of
mark_more zero k q ps h = h
mark_more (suc n) k q ps h = go (is_eq (key_order q k))
  where
    go : (b : Bool) → 0 < length (cond b ([] ∷ values_of q ps) (values_of q ps))
    go true = omega arith
    go false = h

shown : (rs : List ListRecord) (j : ℕ) → (first_at rs j ≡ 0 → ⊥) → 0 < length (values_of (key_at rs j) (marks rs))
unfolding marks
shown [] j u = absurd (u refl)
shown (r ∷ rs) zero u = mark_here r.first (key_at (r ∷ rs) 0) (marks rs) u
shown (r ∷ rs) (suc j) u = mark_more r.first (key_at (r ∷ rs) 0) (key_at rs j) (marks rs) (shown rs j u)

stands : (q : Key) (rs : List ListRecord) → 0 < length (values_of q (marks rs)) → (j : ℕ) × (j < length rs) × Has rs q j
unfolding marks values_of
stands q [] h = absurd (omega arith)
stands q (r ∷ rs) h = go (stands q rs) r.first refl h
  where
    later : (j : ℕ) × (j < length rs) × Has rs q j → (j : ℕ) × (j < length (r ∷ rs)) × Has (r ∷ rs) q j
    later f = (suc f.0, omega (arith, f.1), f.2)

    go : (0 < length (values_of q (marks rs)) → (j : ℕ) × (j < length rs) × Has rs q j) → (n : ℕ) → r.first ≡ n → 0 < length (values_of q (mark n (key_at (r ∷ rs) 0) (marks rs))) → (j : ℕ) × (j < length (r ∷ rs)) × Has (r ∷ rs) q j
    go ih zero e l = later (ih l)
    go ih (suc n) e l = by (is_eq (key_order q (key_at (r ∷ rs) 0))) refl l
      where
        by : (b : Bool) → is_eq (key_order q (key_at (r ∷ rs) 0)) ≡ b → 0 < length (cond b ([] ∷ values_of q (marks rs)) (values_of q (marks rs))) → (j : ℕ) × (j < length (r ∷ rs)) × Has (r ∷ rs) q j
        by true t m = (zero, omega arith, ((λ z. omega arith), sym ((same_decides q (key_at (r ∷ rs) 0)).0 t)))
        by false t m = later (ih m)

-- ---- readings

reading_used : (n : ℕ) (k : Key) → (n ≡ 0 → ⊥) → reading n k ≡ Some k
reading_used zero k u = absurd (u refl)
reading_used (suc n) k u = refl

reads_used : (rs : List ListRecord) (k : Key) (j : ℕ) → Has rs k j → reading_of (get_or rs j blank) ≡ Some k
reads_used rs k j h = reading_read rs j ∙ reading_used (first_at rs j) (key_at rs j) h.0 ∙ ap Some h.1

reads_free : (rs : List ListRecord) (j : ℕ) → first_at rs j ≡ 0 → reading_of (get_or rs j blank) ≡ None
reads_free rs j h = reading_read rs j ∙ ap (λ n. reading n (key_at rs j)) h

-- ---- the search by rank

abbrev keys : List ListRecord → List Key
keys rs = keys_of (marked rs)

-- of the keys, P holds of those from rank i on
abbrev From : List ListRecord → (Option Key → Type 0) → ℕ → Type 0
From rs P i = ((m : ℕ) → m < length (keys rs) → P (Some (get_or (keys rs) m [])) → i ≤ m) × (i < length (keys rs) → P (Some (get_or (keys rs) i [])))

-- what the search answers
abbrev Least : List ListRecord → (Option Key → Type 0) → Option ℕ → Type 0
Least rs P r = FirstLeast used_order P (length rs) (λ j. reading_of (get_or rs j blank)) r

module _ (rs : List ListRecord) where
  to_rank : (j : ℕ) → (first_at rs j ≡ 0 → ⊥) → (m : ℕ) × (m < length (keys rs)) × (get_or (keys rs) m [] ≡ key_at rs j)
  to_rank j u = found_key (key_at rs j) (marked rs) (omega (arith, shown rs j u, ap length (at_rows (key_at rs j) (marks rs))))

  of_rank : (m : ℕ) → m < length (keys rs) → (j : ℕ) × (j < length rs) × Has rs (get_or (keys rs) m []) j
  of_rank m l = stands (get_or (keys rs) m []) rs (omega (arith, key_filled (marked rs) m (canonical_rows (marks rs)) l, ap length (at_rows (get_or (keys rs) m []) (marks rs))))

  up : (i j : ℕ) → i < j → j < length (keys rs) → key_order (get_or (keys rs) i []) (get_or (keys rs) j []) ≡ Less
  up i j h l = ascend (marked rs) i j (canonical_rows (marks rs)) h l

  pub from_first : From rs (λ _. Unit {0}) 0
  from_first = ((λ m l p. omega arith), λ l. tt)

  pub from_next : (i a : ℕ) → Ranked rs i (Some a) → From rs (After used_order (Some (reading_of (get_or rs a blank)))) (i + 1)
  from_next i a w =
      let e : reading_of (get_or rs a blank) ≡ Some (get_or (keys rs) i []) = reads_used rs (get_or (keys rs) i []) a (w.1, w.3) in (
        (λ m l p. over m l (ap (λ v. used_order v (Some (get_or (keys rs) m []))) (sym e) ∙ p)),
        (λ l. ap (λ v. used_order v (Some (get_or (keys rs) (i + 1) []))) e ∙ up i (i + 1) (omega arith) l),
      )
    where
      over : (m : ℕ) → m < length (keys rs) → key_order (get_or (keys rs) i []) (get_or (keys rs) m []) ≡ Less → i + 1 ≤ m
      over m l h = ⊎_elim
          (λ e. absurd (below_apart _ _ h (ap (λ x. get_or (keys rs) x []) e)))
          (⊎_elim (λ e. omega arith) (λ e. let g = order_back _ _ (up m i e w.2) in let z : ◌≡◌ {A = ℕ} 0 1 = cc in absurd (omega arith)))
          (cases_order i m)

  module _ (P : Option Key → Type 0) (i : ℕ) (f : From rs P i) where
    -- the record of the key at rank i is looked at
    target : i < length (keys rs) → (j : ℕ) × (j < length rs) × P (reading_of (get_or rs j blank)) × (reading_of (get_or rs j blank) ≡ Some (get_or (keys rs) i []))
    target l =
        let j = of_rank i l in
        let e = reads_used rs (get_or (keys rs) i []) j.0 j.2 in
        (j.0, j.1, subst P (sym e) (f.1 l), e)

    past : ((i < length (keys rs)) → ⊥) → length (keys rs) ≤ i
    past h = ⊎_elim (λ e. omega arith) (⊎_elim (λ e. absurd (h e)) (λ e. omega arith)) (cases_order i (length (keys rs)))

    pub rank_none : Least rs P None → length (keys rs) ≤ i
    rank_none h = past (λ l. let j = target l in h j.0 j.1 j.2)

    pub rank_free : (e : ℕ) → Least rs P (Some e) → first_at rs e ≡ 0 → length (keys rs) ≤ i
    rank_free e h z = past (λ l. let j = target l in h.2 j.0 j.1 j.2 (λ x. used_order (j.3 x) (reads_free rs e z x)))

    pub rank_here : (e : ℕ) → Least rs P (Some e) → (first_at rs e ≡ 0 → ⊥) → Ranked rs i (Some e)
    rank_here e h u =
        let m = to_rank e u in
        let r : reading_of (get_or rs e blank) ≡ Some (get_or (keys rs) m.0 []) = reads_used rs (get_or (keys rs) m.0 []) e (u, sym m.2) in
        let l : i ≤ m.0 = f.0 m.0 m.1 (subst P r h.1) in
        let n : i < length (keys rs) = omega (arith, m.1) in (
          h.0,
          u,
          n,
          ⊎_elim
              (λ q. sym m.2 ∙ ap (λ x. get_or (keys rs) x []) q)
              (λ q. let j = target n in absurd (h.2 j.0 j.1 j.2 ((λ x. used_order (j.3 x) (r x)) ∙ up i m.0 (omega arith) m.1)))
              (cases_eq m.0 i),
        )

-- what the search by rank tells: a record in use has the key at the rank, and a free one that there is no such key
abbrev pub Told : List ListRecord → ℕ → Option ℕ → Type 0
Told rs k None = length (keys rs) ≤ k
Told rs k (Some e) = (first_at rs e ≡ 0 → length (keys rs) ≤ k) × ((first_at rs e ≡ 0 → ⊥) → Ranked rs k (Some e))

told : (rs : List ListRecord) (P : Option Key → Type 0) (k : ℕ) → From rs P k → (r : Option ℕ) → Least rs P r → Told rs k r
told rs P k f None h = rank_none rs P k f h
told rs P k f (Some e) h = (rank_free rs P k f e h, rank_here rs P k f e h)

-- no key comes after a free record
past_free : (rs : List ListRecord) (k a : ℕ) (r : Option ℕ) → first_at rs a ≡ 0 → length (keys rs) ≤ k → Least rs (After used_order (Some (reading_of (get_or rs a blank)))) r → Told rs (suc k) r
past_free rs k a None z l h = omega arith
past_free rs k a (Some e) z l h = absurd (never (reading_of (get_or rs e blank)) (ap (λ v. used_order v (reading_of (get_or rs e blank))) (sym (reads_free rs a z)) ∙ h.1))
  where
    never : (v : Option Key) → used_order None v ≡ Less → ⊥
    never None g = let n : ◌≡◌ {A = ℕ} 0 1 = cc in absurd (omega arith)
    never (Some b) g = let n : ◌≡◌ {A = ℕ} 0 1 = cc in absurd (omega arith)

told_next : (rs : List ListRecord) (k : ℕ) (p r : Option ℕ) → Told rs k p → Next used_order (length rs) (λ j. reading_of (get_or rs j blank)) p r → Told rs (suc k) r
told_next rs k None r t e = subst (Told rs (suc k)) (sym e) (omega arith)
told_next rs k (Some a) r t h = go (first_at rs a) refl
  where
    go : (n : ℕ) → first_at rs a ≡ n → Told rs (suc k) r
    go zero z = past_free rs k a r z (t.0 z) h
    go (suc n) z =
        let m : k + 1 ≡ suc k = omega arith in
        subst (λ (i : ℕ). Told rs i r) m (told rs (After used_order (Some (reading_of (get_or rs a blank)))) (k + 1) (from_next rs k a (t.1 (λ y. let w : ◌≡◌ {A = ℕ} 0 (suc n) = sym y ∙ z in omega arith))) r h)

pub told_ranked : (rs : List ListRecord) (k : ℕ) (r : Option ℕ) → Rank used_order (length rs) (λ j. reading_of (get_or rs j blank)) k r → Told rs k r
unfolding Rank
told_ranked rs zero r h = told rs (λ _. Unit {0}) 0 (from_first rs) r h
told_ranked rs (suc k) r h = told_next rs k h.0 r (told_ranked rs k h.0 h.1) h.2
