-- A table where each number leads to the one below it: all are free.
use Rattle.std.proofs.Common.{◌≡◌, ℕ, zero, suc, ◌<◌, leb, [], reverse, length, sym, refl, ap, ◌∙◌, subst, ⊎_elim, arith}
use Rattle.std.proofs.lemmas.Bool.{cases_eq, cases_lt, cond-true, cond-false, le-leb, lt-leb}
use Rattle.links.specs.Links.{chain, from, Goes, one, tally, numbered, sum, Sound, Pool}
use Rattle.links.proofs.Paths.{one_same, one_other, down, goes_down, length_down}
use Rattle.links.proofs.Tables.{numbered_zero, chain_is}

pub tally_down : (n m : ℕ) → tally m (down n) ≡ numbered n m
unfolding numbered
tally_down zero zero = refl
tally_down zero (suc m) = sym (cond-false {A = ℕ} (leb (suc m) 0) 1 0 (lt-leb (suc m) 0 (omega arith)))
tally_down (suc n) zero = omega (arith, one_other 0 (suc n) (λ e. omega arith), tally_down n 0)
tally_down (suc n) (suc m) =
    ⊎_elim
    (λ e. let a : tally (suc m) (down n) ≡ 0 = tally_down n (suc m) ∙ cond-false {A = ℕ} (leb (suc m) n) 1 0 (lt-leb (suc m) n (omega arith)) in
    let b : one (suc m) (suc n) ≡ 1 = ap (λ (x : ℕ). one (suc m) (suc x)) (sym e) ∙ one_same (suc m) in
    omega (arith, cond-true {A = ℕ} (leb (suc m) (suc n)) 1 0 (le-leb (suc m) (suc n) (omega arith))))
    (λ ne. ⊎_elim
    (λ l. let a : tally (suc m) (down n) ≡ 1 = tally_down n (suc m) ∙ cond-true {A = ℕ} (leb (suc m) n) 1 0 (le-leb (suc m) n (omega arith)) in
    omega (arith, one_other (suc m) (suc n) (λ z. ne (omega arith)), cond-true {A = ℕ} (leb (suc m) (suc n)) 1 0 (le-leb (suc m) (suc n) (omega arith))))
    (λ l. let a : tally (suc m) (down n) ≡ 0 = tally_down n (suc m) ∙ cond-false {A = ℕ} (leb (suc m) n) 1 0 (lt-leb (suc m) n (omega arith)) in
    omega (arith, one_other (suc m) (suc n) (λ z. ne (omega arith)), cond-false {A = ℕ} (leb (suc m) (suc n)) 1 0 (lt-leb (suc m) (suc n) (omega (arith, l)))))
    (cases_lt m n))
    (cases_eq m n)

pub sum_zero : (f : ℕ → ℕ) (n : ℕ) → ((i : ℕ) → f i ≡ 0) → sum f n ≡ 0
unfolding sum
sum_zero f zero h = refl
sum_zero f (suc n) h = omega (arith, h n, sum_zero f n h)

pub chain_none : (f : ℕ → ℕ) (k h : ℕ) → h ≡ 0 → chain f k h ≡ []
chain_none f zero h e = refl
chain_none f (suc k) zero e = refl
chain_none f (suc k) (suc h) e = absurd (omega arith)

module _ (size : ℕ) (next : ℕ → ℕ) (leads : (k : ℕ) → k < size → next (suc k) ≡ k) where
  goes : Goes (from size next) 0 (down size)
  goes = goes_down (from size next) size 0 refl leads

  free_is : chain next size size ≡ down size
  free_is = chain_is size next size (down size) goes (tally_down size 0 ∙ numbered_zero size) (omega (arith, length_down size))

  pub cleared_pool : (used : ℕ → ℕ) → ((n : ℕ) → used n ≡ 0) → Pool size next used size
  cleared_pool used none = record {
    freed = subst (Goes (from size next) 0) (sym free_is) goes;
    each = λ m. omega (arith, none m, ap (tally m) free_is, tally_down size m);
    full = omega (arith, sum_zero (λ k. used (suc k)) size (λ i. none (suc i)), ap length free_is, length_down size);
  }

  pub cleared : (prev first last : ℕ → ℕ) → ((e : ℕ) → first e ≡ 0) → ((e : ℕ) → last e ≡ 0) → Sound size (record { next = next; prev = prev; first = first; last = last; free = size })
  cleared prev first last f l =
      let none : (e : ℕ) → chain next size (first e) ≡ [] = λ e. chain_none next size (first e) (f e) in
      record {
        ahead = λ e k. subst (Goes (from (first e) next) 0) (sym (none e)) (f e);
        back = λ e k. subst (λ ns. Goes (from (last e) prev) 0 (reverse ns)) (sym (none e)) (l e);
        freed = subst (Goes (from size next) 0) (sym free_is) goes;
        each = λ m. omega (arith, sum_zero (λ e. tally m (chain next size (first e))) size (λ e. ap (tally m) (none e)), ap (tally m) free_is, tally_down size m);
        full = omega (arith, sum_zero (λ e. length (chain next size (first e))) size (λ e. ap length (none e)), ap length free_is, length_down size);
      }
