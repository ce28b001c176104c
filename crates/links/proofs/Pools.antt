-- Places in use and a chain of free ones: a free one is taken, and one in use is given back.
use Rattle.std.proofs.Common.{◌≡◌, ℕ, zero, suc, ◌+◌, ◌-◌, ◌<◌, ◌≤◌, ◌≢◌, List, [], ◌∷◌, length, sym, refl, ap, ◌∙◌, subst, ⊎_elim, arith}
use Rattle.std.proofs.lemmas.Bool.{cases_eq}
use Rattle.links.specs.Links.{chain, from, Goes, one, tally, numbered, sum, Pool}
use Rattle.links.proofs.Paths.{one_same, one_other, goes_frame}
use Rattle.links.proofs.Sums.{sum_one, sum_same}
use Rattle.links.proofs.Tables.{numbered_zero, numbered_one, numbered_in, from_some, chain_is}

-- a chain with a number in it has a first one
pub first_some : (f : ℕ → ℕ) (k h : ℕ) → 0 < length (chain f k h) → 0 < h
first_some f zero h l = absurd (omega arith)
first_some f (suc k) zero l = absurd (omega arith)
first_some f (suc k) (suc h) l = omega arith

pub head_split : (f : ℕ → ℕ) (h : ℕ) (xs : List ℕ) → Goes (from h f) 0 xs → 0 < h → (ys : List ℕ) × (xs ≡ h ∷ ys)
head_split f h [] g o = absurd (omega (arith, g))
head_split f h (x ∷ xs) g o = (xs, ap (λ (y : ℕ). y ∷ xs) (sym g.0))

module _ (size : ℕ) (next used : ℕ → ℕ) (free : ℕ) (pool : Pool size next used free) where
  pub used_within : (n : ℕ) → 0 < used n → (0 < n) × (n ≤ size)
  used_within n h = numbered_in size n (omega (arith, pool.each n))

  -- nothing has changed
  pub pool_same : (next' used' : ℕ → ℕ) → ((m : ℕ) → 0 < m → next' m ≡ next m) → ((m : ℕ) → used' m ≡ used m) → Pool size next' used' free
  pool_same next' used' same else =
      let xs = chain next size free in
      let goes : Goes (from free next') 0 xs = goes_frame (from free next) (from free next') 0 0 xs pool.freed refl
      (λ m i. let o = (numbered_in size m (omega (arith, pool.each m))).0 in from_some free next' m o ∙ same m o ∙ sym (from_some free next m o)) in
      let is : chain next' size free ≡ xs = chain_is free next' size xs goes (omega (arith, pool.each 0, numbered_zero size)) (omega (arith, pool.full)) in
      record {
        freed = subst (Goes (from free next') 0) (sym is) goes;
        each = λ m. omega (arith, pool.each m, else m, ap (tally m) is);
        full = omega (arith, pool.full, ap length is, sum_same (λ k. used (suc k)) (λ k. used' (suc k)) size (λ i l. else (suc i)));
      }

  module _ (some : 0 < free) where
    abbrev fs : List ℕ
    fs = (head_split next free (chain next size free) pool.freed some).0

    is : chain next size free ≡ free ∷ fs
    is = (head_split next free (chain next size free) pool.freed some).1

    pub free_within : free ≤ size
    free_within = (numbered_in size free (omega (arith, pool.each free, ap (tally free) is, one_same free))).1

    pub free_unused : used free ≡ 0
    free_unused = omega (arith, pool.each free, ap (tally free) is, one_same free, numbered_one size free)

    module _ (next' used' : ℕ → ℕ) (same : (m : ℕ) → 0 < m → m ≢ free → next' m ≡ next m) (now : used' free ≡ 1) (else : (m : ℕ) → m ≢ free → used' m ≡ used m) where
      goes : Goes (from (next free) next') 0 fs
      goes = goes_frame (from free next) (from (next free) next') free 0 fs (subst (Goes (from free next) 0) is pool.freed).1
          (sym (from_some free next free some))
          (λ m i.
          let o = (numbered_in size m (omega (arith, pool.each m, ap (tally m) is))).0 in
          let ne : m ≢ free = λ z. let c : tally m fs ≡ tally free fs = ap (λ k. tally k fs) z in omega (arith, pool.each free, ap (tally free) is, one_same free, numbered_one size free) in
          from_some (next free) next' m o ∙ same m o ne ∙ sym (from_some free next m o))

      rest : chain next' size (next free) ≡ fs
      rest = chain_is (next free) next' size fs goes (omega (arith, pool.each 0, numbered_zero size, ap (tally 0) is)) (omega (arith, pool.full, ap length is))

      pub pool_taken : Pool size next' used' (next free)
      pool_taken = record {
        freed = subst (Goes (from (next free) next') 0) (sym rest) goes;
        each = λ m. ⊎_elim
            (λ q. let a : used' m ≡ used' free = ap used' q in let b : tally m fs ≡ tally free fs = ap (λ k. tally k fs) q in let c : numbered size m ≡ numbered size free = ap (numbered size) q in
            omega (arith, now, ap (tally m) rest, pool.each free, ap (tally free) is, one_same free, free_unused))
            (λ ne. omega (arith, else m ne, ap (tally m) rest, pool.each m, ap (tally m) is, one_other m free ne))
            (cases_eq m free);
        full =
            let e : suc (free - 1) ≡ free = omega arith in
            let u : used' (suc (free - 1)) ≡ 1 = ap used' e ∙ now in
            let v : used (suc (free - 1)) ≡ 0 = ap used e ∙ free_unused in
            omega (
              arith,
              pool.full,
              ap length is,
              ap length rest,
              sum_one (λ k. used (suc k)) (λ k. used' (suc k)) (free - 1) size (omega (arith, free_within)) (λ i k ne. else (suc i) (λ z. ne (omega arith))),
            );
      }

  module _ (n : ℕ) (busy : used n ≡ 1) (next' used' : ℕ → ℕ) (here : next' n ≡ free) (same : (m : ℕ) → 0 < m → m ≢ n → next' m ≡ next m)
      (now : used' n ≡ 0) (else : (m : ℕ) → m ≢ n → used' m ≡ used m) where
    inn : (0 < n) × (n ≤ size)
    inn = used_within n (omega arith)

    goes_back : Goes (from n next') 0 (n ∷ chain next size free)
    goes_back = (
      refl,
      goes_frame (from free next) (from n next') 0 n (chain next size free) pool.freed
          (from_some n next' n inn.0 ∙ here)
          (λ m i.
          let o = (numbered_in size m (omega (arith, pool.each m))).0 in
          let ne : m ≢ n = λ z. let c : tally m (chain next size free) ≡ tally n (chain next size free) = ap (λ k. tally k (chain next size free)) z in omega (arith, pool.each n, numbered_one size n) in
          from_some n next' m o ∙ same m o ne ∙ sym (from_some free next m o)),
    )

    now_one : sum (λ k. used' (suc k)) size + 1 ≡ sum (λ k. used (suc k)) size
    now_one =
        let e : suc (n - 1) ≡ n = omega (arith, inn.0) in
        let u : used' (suc (n - 1)) ≡ 0 = ap used' e ∙ now in
        let v : used (suc (n - 1)) ≡ 1 = ap used e ∙ busy in
        omega (arith, sum_one (λ k. used (suc k)) (λ k. used' (suc k)) (n - 1) size (omega (arith, inn)) (λ i k ne. else (suc i) (λ z. ne (omega arith))))

    more : chain next' size n ≡ n ∷ chain next size free
    more = chain_is n next' size (n ∷ chain next size free) goes_back
        (omega (arith, pool.each 0, numbered_zero size, one_other 0 n (λ z. omega (arith, inn.0))))
        (omega (arith, pool.full, now_one))

    pub pool_given : Pool size next' used' n
    pool_given = record {
      freed = subst (Goes (from n next') 0) (sym more) goes_back;
      each = λ m. ⊎_elim
          (λ q. let a : used' m ≡ used' n = ap used' q in let b : tally m (chain next size free) ≡ tally n (chain next size free) = ap (λ k. tally k (chain next size free)) q in
          let c : numbered size m ≡ numbered size n = ap (numbered size) q in let d : one m n ≡ one n n = ap (λ k. one k n) q in
          omega (arith, now, ap (tally m) more, pool.each n, one_same n, busy))
          (λ ne. omega (arith, else m ne, ap (tally m) more, pool.each m, one_other m n ne))
          (cases_eq m n);
      full = omega (arith, pool.full, ap length more, now_one);
    }
