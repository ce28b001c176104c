-- Sums over places.
use Rattle.std.proofs.Common.{◌≡◌, ℕ, zero, suc, ◌+◌, ◌<◌, ◌≤◌, ◌≢◌, sym, refl, ap, ◌∙◌, ⊎_elim, arith}
use Rattle.std.proofs.lemmas.Bool.{cases_eq}
use Rattle.links.specs.Links.{sum}

pub sum_same : (f g : ℕ → ℕ) (n : ℕ) → ((i : ℕ) → i < n → g i ≡ f i) → sum g n ≡ sum f n
unfolding sum
sum_same f g zero h = refl
sum_same f g (suc n) h = omega (arith, h n (omega arith), sum_same f g n (λ i l. h i (omega arith)))

-- where only one place has changed
pub sum_one : (f g : ℕ → ℕ) (e n : ℕ) → e < n → ((i : ℕ) → i < n → i ≢ e → g i ≡ f i) → sum g n + f e ≡ sum f n + g e
unfolding sum
sum_one f g e zero l h = absurd (omega arith)
sum_one f g e (suc n) l h =
    ⊎_elim
    (λ q. let s = sum_same f g n (λ i k. h i (omega arith) (λ z. omega arith)) in
    let a : f e ≡ f n = ap f q in let b : g e ≡ g n = ap g q in omega arith)
    (λ ne. omega (arith, h n (omega arith) (λ z. ne (sym z)), sum_one f g e n (omega (arith, ne)) (λ i k. h i (omega arith))))
    (cases_eq e n)

pub sum_part : (f : ℕ → ℕ) (e n : ℕ) → e < n → f e ≤ sum f n
unfolding sum
sum_part f e zero l = absurd (omega arith)
sum_part f e (suc n) l =
    ⊎_elim
    (λ q. let a : f e ≡ f n = ap f q in omega arith)
    (λ ne. omega (arith, sum_part f e n (omega (arith, ne))))
    (cases_eq e n)

pub sum_two : (f : ℕ → ℕ) (e i n : ℕ) → e < n → i < n → i ≢ e → f e + f i ≤ sum f n
unfolding sum
sum_two f e i zero l k ne = absurd (omega arith)
sum_two f e i (suc n) l k ne =
    ⊎_elim
    (λ q. let a : f e ≡ f n = ap f q in omega (arith, sum_part f i n (omega (arith, λ (z : i ≡ n). ne (z ∙ sym q)))))
    (λ en. ⊎_elim
    (λ q. let a : f i ≡ f n = ap f q in omega (arith, sum_part f e n (omega (arith, en))))
    (λ ni. omega (arith, sum_two f e i n (omega (arith, en)) (omega (arith, ni)) ne))
    (cases_eq i n))
    (cases_eq e n)

pub sum_le : (f g : ℕ → ℕ) (n : ℕ) → ((i : ℕ) → i < n → f i ≤ g i) → sum f n ≤ sum g n
unfolding sum
sum_le f g zero h = omega arith
sum_le f g (suc n) h = omega (arith, h n (omega arith), sum_le f g n (λ i l. h i (omega arith)))

-- from the first place on
pub sum_first : (f : ℕ → ℕ) (n : ℕ) → sum f (suc n) ≡ f 0 + sum (λ i. f (suc i)) n
unfolding sum
sum_first f zero = refl
sum_first f (suc n) = omega (arith, sum_first f n)
