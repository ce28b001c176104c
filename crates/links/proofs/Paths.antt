-- Chains: what leads through a list, where a number stands in it, and what taking one out or putting one in needs.
use Rattle.std.proofs.Common.{◌≡◌, ℕ, zero, suc, ◌+◌, ◌<◌, ◌≤◌, eqb, ◌≢◌, List, [], ◌∷◌, ◌++◌, map, reverse, length, get_or, sym, refl, ap, ◌∙◌, arith, eq-eqb, ne_eqb}
use mathlib.Core.List.{reverse-cons}
use Rattle.std.proofs.lemmas.Bool.{cond-true, cond-false}
use Rattle.links.specs.Links.{chain, Goes, one, tally, last_or, head_or}

-- ---- one and tally

pub one_same : (n : ℕ) → one n n ≡ 1
unfolding one
one_same n = cond-true (eqb n n) 1 0 (eq-eqb n n refl)

pub one_other : (m n : ℕ) → m ≢ n → one m n ≡ 0
unfolding one
one_other m n h = cond-false (eqb m n) 1 0 (ne_eqb m n h)

pub tally_append : (m : ℕ) (xs ys : List ℕ) → tally m (xs ++ ys) ≡ tally m xs + tally m ys
tally_append m [] ys = omega arith
tally_append m (x ∷ xs) ys = omega (arith, tally_append m xs ys)

pub tally_reverse : (m : ℕ) (xs : List ℕ) → tally m (reverse xs) ≡ tally m xs
tally_reverse m [] = refl
tally_reverse m (x ∷ xs) = rw (reverse-cons x xs) (omega (arith, tally_append m (reverse xs) (x ∷ []), tally_reverse m xs))

pub tally_head : (x : ℕ) (xs : List ℕ) → 0 < tally x (x ∷ xs)
tally_head x xs = omega (arith, one_same x)

-- where m is not in a list and n is, they differ
pub apart : (m n : ℕ) (xs : List ℕ) → tally m xs ≡ 0 → 0 < tally n xs → m ≢ n
apart m n xs h k e = let f : tally m xs ≡ tally n xs = ap (λ (x : ℕ). tally x xs) e in omega arith

abbrev pub Once : List ℕ → Type 0
Once xs = (m : ℕ) → tally m xs ≤ 1

-- ---- a function that leads from a through a list to 0

pub chain_goes : (f : ℕ → ℕ) (a : ℕ) (xs : List ℕ) (k : ℕ) → Goes f a xs → tally 0 xs ≡ 0 → length xs ≤ k → chain f k (f a) ≡ xs
chain_goes f a [] zero h z l = refl
chain_goes f a [] (suc k) h z l = rw h refl
chain_goes f a (zero ∷ xs) k h z l = absurd (omega (arith, one_same 0))
chain_goes f a (suc x ∷ xs) zero h z l = absurd (omega arith)
chain_goes f a (suc x ∷ xs) (suc k) h z l =
    rw h.0 (ap (λ (r : List ℕ). suc x ∷ r) (chain_goes f (suc x) xs k h.1 (omega arith) (omega arith)))

-- g is f at the members of xs
abbrev pub Agree : {X : Type 0} → (ℕ → X) → (ℕ → X) → List ℕ → Type 0
Agree f g xs = (m : ℕ) → 0 < tally m xs → g m ≡ f m

agree_tail : {X : Type 0} (f g : ℕ → X) (x : ℕ) (xs : List ℕ) → Agree f g (x ∷ xs) → Agree f g xs
agree_tail f g x xs h m k = h m (omega arith)

pub map_frame : {X : Type 0} (f g : ℕ → X) (xs : List ℕ) → Agree f g xs → map g xs ≡ map f xs
map_frame f g [] h = refl
map_frame f g (x ∷ xs) h = let e = h x (tally_head x xs) in let r = map_frame f g xs (agree_tail f g x xs h) in cc

pub goes_frame : (f g : ℕ → ℕ) (a b : ℕ) (xs : List ℕ) → Goes f a xs → g b ≡ f a → Agree f g xs → Goes g b xs
goes_frame f g a b [] h e k = e ∙ h
goes_frame f g a b (x ∷ xs) h e k = (e ∙ h.0, goes_frame f g x x xs h.1 (k x (tally_head x xs)) (agree_tail f g x xs k))

-- ---- the ends of a list

pub last_in : (a : ℕ) (xs : List ℕ) → 0 < tally (last_or a xs) (a ∷ xs)
last_in a [] = tally_head a []
last_in a (x ∷ xs) = omega (arith, last_in x xs)

pub last_push : (a : ℕ) (xs : List ℕ) (x : ℕ) → last_or a (xs ++ x ∷ []) ≡ x
last_push a [] x = refl
last_push a (y ∷ xs) x = last_push y xs x

pub last_reverse : (a : ℕ) (xs : List ℕ) → last_or a (reverse xs) ≡ head_or xs a
last_reverse a [] = refl
last_reverse a (x ∷ xs) = rw (reverse-cons x xs) (last_push a (reverse xs) x)

pub head_push : (a : ℕ) (xs : List ℕ) (x : ℕ) → head_or (xs ++ x ∷ []) a ≡ head_or xs x
head_push a [] x = refl
head_push a (y ∷ xs) x = refl

pub head_reverse : (a : ℕ) (xs : List ℕ) → head_or (reverse xs) a ≡ last_or a xs
head_reverse a [] = refl
head_reverse a (x ∷ xs) = rw (reverse-cons x xs) (head_push a (reverse xs) x ∙ head_reverse x xs)

pub goes_after : (f : ℕ → ℕ) (a : ℕ) (xs ys : List ℕ) → Goes f a (xs ++ ys) → f (last_or a xs) ≡ head_or ys 0
goes_after f a [] [] h = h
goes_after f a [] (y ∷ ys) h = h.0
goes_after f a (x ∷ xs) ys h = goes_after f x xs ys h.1

pub goes_at : (f : ℕ → ℕ) (a : ℕ) (xs : List ℕ) (n : ℕ) (ys : List ℕ) → Goes f a (xs ++ n ∷ ys) → f n ≡ head_or ys 0
goes_at f a [] n ys h = goes_after f n [] ys h.1
goes_at f a (x ∷ xs) n ys h = goes_at f x xs n ys h.1

pub head_among : (xs : List ℕ) → 0 < tally (head_or xs 0) (0 ∷ xs)
head_among [] = tally_head 0 []
head_among (x ∷ xs) = omega (arith, tally_head x xs)

-- ---- a number taken out, and put in

pub goes_out : (f g : ℕ → ℕ) (a : ℕ) (xs : List ℕ) (n : ℕ) (ys : List ℕ) → Goes f a (xs ++ n ∷ ys) → Once (a ∷ xs ++ n ∷ ys)
    → g (last_or a xs) ≡ f n → ((m : ℕ) → m ≢ last_or a xs → m ≢ n → g m ≡ f m) → Goes g a (xs ++ ys)
goes_out f g a [] n ys h o e k =
    goes_frame f g n a ys h.1 e
    (λ m i. k m (λ z. apart a m ys (omega (arith, o a, one_same a)) i (sym z)) (λ z. apart n m ys (omega (arith, o n, one_same n)) i (sym z)))
goes_out f g a (x ∷ xs) n ys h o e k =
    let out : tally a (x ∷ xs) ≡ 0 = omega (arith, o a, one_same a, tally_append a xs (n ∷ ys)) in
    let out' : tally a (n ∷ []) ≡ 0 = omega (arith, o a, one_same a, tally_append a xs (n ∷ ys)) in
    let e' : g a ≡ f a = k a (apart a (last_or x xs) (x ∷ xs) out (last_in x xs)) (apart a n (n ∷ []) out' (tally_head n [])) in
    (e' ∙ h.0, goes_out f g x xs n ys h.1 (λ m. omega (arith, o m)) e k)

pub goes_in : (f g : ℕ → ℕ) (a : ℕ) (xs : List ℕ) (n : ℕ) (ys : List ℕ) → Goes f a (xs ++ ys) → Once (a ∷ xs ++ n ∷ ys)
    → g (last_or a xs) ≡ n → g n ≡ f (last_or a xs) → ((m : ℕ) → m ≢ last_or a xs → m ≢ n → g m ≡ f m) → Goes g a (xs ++ n ∷ ys)
goes_in f g a [] n ys h o d e k = (
  d,
  goes_frame f g a n ys h e
      (λ m i. k m (λ z. apart a m ys (omega (arith, o a, one_same a)) i (sym z)) (λ z. apart n m ys (omega (arith, o n, one_same n)) i (sym z))),
)
goes_in f g a (x ∷ xs) n ys h o d e k =
    let out : tally a (x ∷ xs) ≡ 0 = omega (arith, o a, one_same a, tally_append a xs (n ∷ ys)) in
    let out' : tally a (n ∷ []) ≡ 0 = omega (arith, o a, one_same a, tally_append a xs (n ∷ ys)) in
    let e' : g a ≡ f a = k a (apart a (last_or x xs) (x ∷ xs) out (last_in x xs)) (apart a n (n ∷ []) out' (tally_head n [])) in
    (e' ∙ h.0, goes_in f g x xs n ys h.1 (λ m. omega (arith, o m)) d e k)

-- ---- by places

pub goes_nth : (f : ℕ → ℕ) (a : ℕ) (xs : List ℕ) (k : ℕ) → Goes f a xs → k < length xs → f (get_or xs k 0) ≡ get_or xs (suc k) 0
goes_nth f a [] k h l = absurd (omega arith)
goes_nth f a (x ∷ []) zero h l = h.1
goes_nth f a (x ∷ (y ∷ ys)) zero h l = h.1.0
goes_nth f a (x ∷ xs) (suc k) h l = goes_nth f x xs k h.1 (omega arith)

pub tally_nth : (xs : List ℕ) (k : ℕ) → k < length xs → 0 < tally (get_or xs k 0) xs
tally_nth [] k l = absurd (omega arith)
tally_nth (x ∷ xs) zero l = tally_head x xs
tally_nth (x ∷ xs) (suc k) l = omega (arith, tally_nth xs k (omega arith))

-- the numbers from n down to 1
abbrev pub down : ℕ → List ℕ
down zero = []
down (suc k) = suc k ∷ down k

pub goes_down : (f : ℕ → ℕ) (n a : ℕ) → f a ≡ n → ((k : ℕ) → k < n → f (suc k) ≡ k) → Goes f a (down n)
goes_down f zero a e h = e
goes_down f (suc n) a e h = (e, goes_down f n (suc n) (h n (omega arith)) (λ k l. h k (omega arith)))

pub length_down : (n : ℕ) → length (down n) ≡ n
length_down zero = refl
length_down (suc n) = ap suc (length_down n)
