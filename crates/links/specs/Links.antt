-- Lists of numbers that are led through by links: each number from 1 to a size stands in one of the lists or is free. Zero ends a chain and is no number.
use Rattle.std.specs.Prelude.{◌≡◌, ℕ, zero, suc, ◌+◌, ◌<◌, cond, ◌≢◌, List, [], ◌∷◌, ◌++◌, reverse, length, ◌==◌, nat_le}

-- ---- chains

-- the numbers from n on, along f, until 0; at most so many
abbrev pub chain : (ℕ → ℕ) → ℕ → ℕ → List ℕ
chain f zero n = []
chain f (suc k) zero = []
chain f (suc k) (suc n) = suc n ∷ chain f k (f (suc n))

-- f, and h at 0: the head of a chain leads to its first number
abbrev pub from : ℕ → (ℕ → ℕ) → ℕ → ℕ
from h f zero = h
from h f (suc n) = f (suc n)

-- f leads from a through xs, in their order, to 0
abbrev pub Goes : (ℕ → ℕ) → ℕ → List ℕ → Type 0
Goes f a [] = f a ≡ 0
Goes f a (x ∷ xs) = (f a ≡ x) × Goes f x xs

-- ---- counts

unfoldable pub one : ℕ → ℕ → ℕ
one n x = cond (n == x) 1 0

-- how often n stands in a list
abbrev pub tally : ℕ → List ℕ → ℕ
tally n [] = 0
tally n (x ∷ xs) = one n x + tally n xs

-- 1 for a number from 1 to size, and 0 for any other
unfoldable pub numbered : ℕ → ℕ → ℕ
numbered size zero = 0
numbered size (suc k) = cond (nat_le (suc k) size) 1 0

-- f 0 + .. + f (n - 1)
unfoldable pub sum : (ℕ → ℕ) → ℕ → ℕ
sum f zero = 0
sum f (suc n) = f n + sum f n

-- the last of a list, or a where there is none
abbrev pub last_or : ℕ → List ℕ → ℕ
last_or a [] = a
last_or a (x ∷ xs) = last_or x xs

-- the first of a list, or a where there is none
abbrev pub head_or : List ℕ → ℕ → ℕ
head_or [] a = a
head_or (x ∷ xs) a = x

-- ---- lists in one table

-- where each number leads, the ends of each list, and the first free number
pub record Links : Type 0 where
  pub next : ℕ → ℕ
  pub prev : ℕ → ℕ
  pub first : ℕ → ℕ
  pub last : ℕ → ℕ
  pub free : ℕ

-- the numbers of the list at e, and the free ones
abbrev pub listed : ℕ → Links → ℕ → List ℕ
listed size s e = chain s.next size (s.first e)

abbrev pub spare : ℕ → Links → List ℕ
spare size s = chain s.next size s.free

-- each list is led through from both its ends, the free numbers from their first; together they are the numbers from 1 to size, each once
pub record Sound (size : ℕ) (s : Links) : Type 0 where
  pub ahead : (e : ℕ) → e < size → Goes (from (s.first e) s.next) 0 (listed size s e)
  pub back : (e : ℕ) → e < size → Goes (from (s.last e) s.prev) 0 (reverse (listed size s e))
  pub freed : Goes (from s.free s.next) 0 (spare size s)
  pub each : (n : ℕ) → sum (λ e. tally n (listed size s e)) size + tally n (spare size s) ≡ numbered size n
  pub full : sum (λ e. length (listed size s e)) size + length (spare size s) ≡ size

-- q follows p now in one list, where 0 is the list's head, and nothing else has changed
pub record Tied (next prev : ℕ → ℕ) (first last : ℕ) (next' prev' : ℕ → ℕ) (first' last' : ℕ) (p q : ℕ) : Type 0 where
  pub next_here : from first' next' p ≡ q
  pub next_else : (m : ℕ) → m ≢ p → from first' next' m ≡ from first next m
  pub prev_here : from last' prev' q ≡ p
  pub prev_else : (m : ℕ) → m ≢ q → from last' prev' m ≡ from last prev m

-- f leads from n to `to` now, and elsewhere as it did
pub record Led (f g : ℕ → ℕ) (n to : ℕ) : Type 0 where
  pub here : g n ≡ to
  pub else : (m : ℕ) → 0 < m → m ≢ n → g m ≡ f m

-- t is s with n taken out of the list at e: its neighbours are tied, then it leads to the free numbers and is the first of them
pub record TakenOut (s t : Links) (e n : ℕ) : Type 0 where
  pub next : ℕ → ℕ
  pub tied : Tied s.next s.prev (s.first e) (s.last e) next t.prev (t.first e) (t.last e) (s.prev n) (s.next n)
  pub led : Led next t.next n s.free
  pub free : t.free ≡ n
  pub firsts : (i : ℕ) → i ≢ e → t.first i ≡ s.first i
  pub lasts : (i : ℕ) → i ≢ e → t.last i ≡ s.last i

-- t is s with the first free number put into the list at e after p, or before all where p is 0: it is tied to p, then to what followed p
pub record PutIn (s t : Links) (e p : ℕ) : Type 0 where
  pub next : ℕ → ℕ
  pub prev : ℕ → ℕ
  pub first : ℕ
  pub last : ℕ
  pub tied : Tied s.next s.prev (s.first e) (s.last e) next prev first last p s.free
  pub again : Tied next prev first last t.next t.prev (t.first e) (t.last e) s.free (from (s.first e) s.next p)
  pub free : t.free ≡ s.next s.free
  pub firsts : (i : ℕ) → i ≢ e → t.first i ≡ s.first i
  pub lasts : (i : ℕ) → i ≢ e → t.last i ≡ s.last i

-- t is sound: the list at e has the numbers cs and the free ones are fs, and every other list is as it was in s
pub record Relinked (size : ℕ) (s t : Links) (e : ℕ) (cs fs : List ℕ) : Type 0 where
  pub sound : Sound size t
  pub here : listed size t e ≡ cs
  pub free : spare size t ≡ fs
  pub else : (i : ℕ) → i < size → i ≢ e → listed size t i ≡ listed size s i

-- what can be relied on of links without a look at the definitions
pub record LinkLaws : Type 0 where
  -- where each number leads to the one below it and no list has a first or a last, all is sound
  pub clears : (size : ℕ) (next prev : ℕ → ℕ) → ((k : ℕ) → k < size → next (suc k) ≡ k) → Sound size (record { next = next; prev = prev; first = λ e. 0; last = λ e. 0; free = size })
  -- a number that is taken out is the first free one then
  pub takes_out : (size : ℕ) (s t : Links) (e n : ℕ) (ls rs : List ℕ) → Sound size s → e < size → listed size s e ≡ ls ++ n ∷ rs → TakenOut s t e n → Relinked size s t e (ls ++ rs) (n ∷ spare size s)
  -- the first free number, where there is one, goes in at any place
  pub puts_in : (size : ℕ) (s t : Links) (e : ℕ) (ls rs : List ℕ) → Sound size s → e < size → listed size s e ≡ ls ++ rs → 0 < s.free → PutIn s t e (last_or 0 ls)
      → (fs : List ℕ) × (spare size s ≡ s.free ∷ fs) × Relinked size s t e (ls ++ s.free ∷ rs) fs

-- ---- places in use and free ones

-- the free numbers are led through; together with those in use (1 for each, 0 for any other) they are the numbers from 1 to size, each once
pub record Pool (size : ℕ) (next : ℕ → ℕ) (used : ℕ → ℕ) (free : ℕ) : Type 0 where
  pub freed : Goes (from free next) 0 (chain next size free)
  pub each : (n : ℕ) → used n + tally n (chain next size free) ≡ numbered size n
  pub full : sum (λ k. used (suc k)) size + length (chain next size free) ≡ size
