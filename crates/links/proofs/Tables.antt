-- Lists that share one table: a change to one of them and to the free numbers leaves the others as they were.
use Rattle.std.proofs.Common.{◌≡◌, ℕ, zero, suc, ◌+◌, ◌<◌, ◌≤◌, leb, ◌≢◌, List, [], ◌∷◌, ◌++◌, reverse, length, sym, refl, ap, ◌∙◌, subst, ⊎_elim, append_assoc, arith, length-append, leb-true}
use mathlib.Core.List.{reverse-cons, reverse-append}
use Rattle.std.proofs.lemmas.Bool.{cases_Bool, cases_eq, cond-false, cond_both}
use Rattle.links.specs.Links.{chain, from, Goes, one, tally, numbered, last_or, head_or, Links, listed, spare, Sound, Tied, Led, Relinked}
use Rattle.links.proofs.Paths.{one_same, one_other, tally_append, tally_reverse, tally_head, chain_goes, goes_frame, head_among, last_in, last_reverse, head_reverse, goes_after, goes_at, goes_out, goes_in}
use Rattle.links.proofs.Sums.{sum_one, sum_part, sum_two}

pub numbered_zero : (size : ℕ) → numbered size 0 ≡ 0
unfolding numbered
numbered_zero size = refl

pub numbered_one : (size n : ℕ) → numbered size n ≤ 1
unfolding numbered
numbered_one size zero = omega arith
numbered_one size (suc k) = cond_both (leb (suc k) size) 1 0 (λ x. x ≤ 1) (λ e. omega arith) (λ e. omega arith)

pub numbered_in : (size n : ℕ) → 0 < numbered size n → (0 < n) × (n ≤ size)
unfolding numbered
numbered_in size zero h = absurd (omega arith)
numbered_in size (suc k) h =
    (omega arith, ⊎_elim (λ e. leb-true (suc k) size e) (λ e. absurd (omega (arith, cond-false {A = ℕ} (leb (suc k) size) 1 0 e))) (cases_Bool (leb (suc k) size)))

-- members of two lists with nothing in common differ
pub differ : (xs ys : List ℕ) (m n : ℕ) → ((k : ℕ) → tally k xs + tally k ys ≤ 1) → 0 < tally m xs → 0 < tally n ys → m ≢ n
differ xs ys m n o h k e = let f : tally m xs ≡ tally n xs = ap (λ (x : ℕ). tally x xs) e in omega (arith, o n)

pub split : (n : ℕ) (xs : List ℕ) → 0 < tally n xs → (ls : List ℕ) × (rs : List ℕ) × (xs ≡ ls ++ n ∷ rs)
split n [] h = absurd (omega arith)
split n (x ∷ xs) h =
    ⊎_elim
    (λ e. ([], xs, ap (λ (y : ℕ). y ∷ xs) (sym e)))
    (λ ne. let r = split n xs (omega (arith, one_other n x ne)) in (x ∷ r.0, r.1, ap (λ (ys : List ℕ). x ∷ ys) r.2))
    (cases_eq n x)

reverse_mid : (ls : List ℕ) (n : ℕ) (rs : List ℕ) → reverse (ls ++ n ∷ rs) ≡ reverse rs ++ n ∷ reverse ls
reverse_mid ls n rs = reverse-append ls (n ∷ rs) ∙ ap (λ (s : List ℕ). s ++ reverse ls) (reverse-cons n rs) ∙ append_assoc (reverse rs) (n ∷ []) (reverse ls)

pub from_some : (h : ℕ) (f : ℕ → ℕ) (m : ℕ) → 0 < m → from h f m ≡ f m
from_some h f zero l = absurd (omega arith)
from_some h f (suc m) l = refl

pub chain_from : (h : ℕ) (f : ℕ → ℕ) (k n : ℕ) → chain (from h f) k n ≡ chain f k n
chain_from h f zero n = refl
chain_from h f (suc k) zero = refl
chain_from h f (suc k) (suc n) = ap (λ (xs : List ℕ). suc n ∷ xs) (chain_from h f k (f (suc n)))

-- the chain from h is the list that is led through
pub chain_is : (h : ℕ) (f : ℕ → ℕ) (k : ℕ) (xs : List ℕ) → Goes (from h f) 0 xs → tally 0 xs ≡ 0 → length xs ≤ k → chain f k h ≡ xs
chain_is h f k xs g z l = sym (chain_from h f k h) ∙ chain_goes (from h f) 0 xs k g z l

-- ---- what a sound table has

module _ (size : ℕ) (s : Links) (sound : Sound size s) where
  pub once : (e m : ℕ) → e < size → tally m (0 ∷ listed size s e) + tally m (spare size s) ≤ 1
  once e zero l = omega (arith, sound.each 0, numbered_zero size, one_same 0, sum_part (λ i. tally 0 (listed size s i)) e size l)
  once e (suc k) l = omega (arith, sound.each (suc k), numbered_one size (suc k), one_other (suc k) 0 (λ z. omega arith), sum_part (λ i. tally (suc k) (listed size s i)) e size l)

  pub within : (e m : ℕ) → e < size → 0 < tally m (listed size s e) + tally m (spare size s) → (0 < m) × (m ≤ size)
  within e m l h = numbered_in size m (omega (arith, sound.each m, sum_part (λ i. tally m (listed size s i)) e size l))

  -- a number of another list is neither in this one nor free
  pub apart : (e i m : ℕ) → e < size → i < size → i ≢ e → 0 < tally m (listed size s i) → (tally m (listed size s e) + tally m (spare size s) ≡ 0) × (0 < m)
  apart e i m l k ne h =
      (omega (arith, sound.each m, numbered_one size m, sum_two (λ j. tally m (listed size s j)) e i size l k ne), (within i m k (omega arith)).0)

-- ---- a change to one list and to the free numbers

-- the list at e is cs now and the free numbers fs, of the same numbers as before; what is in neither leads where it led
pub record Change (size : ℕ) (s t : Links) (e : ℕ) (cs fs : List ℕ) : Type 0 where
  pub go : Goes (from (t.first e) t.next) 0 cs
  pub back : Goes (from (t.last e) t.prev) 0 (reverse cs)
  pub freed : Goes (from t.free t.next) 0 fs
  pub tallies : (m : ℕ) → tally m cs + tally m fs ≡ tally m (listed size s e) + tally m (spare size s)
  pub lengths : length cs + length fs ≡ length (listed size s e) + length (spare size s)
  pub firsts : (i : ℕ) → i ≢ e → t.first i ≡ s.first i
  pub lasts : (i : ℕ) → i ≢ e → t.last i ≡ s.last i
  pub nexts : (m : ℕ) → 0 < m → tally m (listed size s e) + tally m (spare size s) ≡ 0 → t.next m ≡ s.next m
  pub prevs : (m : ℕ) → 0 < m → tally m (listed size s e) + tally m (spare size s) ≡ 0 → t.prev m ≡ s.prev m

module _ (size : ℕ) (s t : Links) (sound : Sound size s) (e : ℕ) (l : e < size) (cs fs : List ℕ) (c : Change size s t e cs fs) where
  none_zero : tally 0 cs + tally 0 fs ≡ 0
  none_zero = omega (arith, c.tallies 0, sound.each 0, numbered_zero size, sum_part (λ i. tally 0 (listed size s i)) e size l)

  few : length cs + length fs ≤ size
  few = omega (arith, c.lengths, sound.full, sum_part (λ i. length (listed size s i)) e size l)

  pub changed_here : listed size t e ≡ cs
  changed_here = chain_is (t.first e) t.next size cs c.go (omega (arith, none_zero)) (omega (arith, few))

  pub changed_spare : spare size t ≡ fs
  changed_spare = chain_is t.free t.next size fs c.freed (omega (arith, none_zero)) (omega (arith, few))

  module _ (i : ℕ) (k : i < size) (ne : i ≢ e) where
    else_ahead : Goes (from (t.first i) t.next) 0 (listed size s i)
    else_ahead = goes_frame (from (s.first i) s.next) (from (t.first i) t.next) 0 0 (listed size s i) (sound.ahead i k) (c.firsts i ne)
        (λ m h. let a = apart size s sound e i m l k ne h in
        from_some (t.first i) t.next m a.1 ∙ c.nexts m a.1 a.0 ∙ sym (from_some (s.first i) s.next m a.1))

    else_back : Goes (from (t.last i) t.prev) 0 (reverse (listed size s i))
    else_back = goes_frame (from (s.last i) s.prev) (from (t.last i) t.prev) 0 0 (reverse (listed size s i)) (sound.back i k) (c.lasts i ne)
        (λ m h. let a = apart size s sound e i m l k ne (omega (arith, tally_reverse m (listed size s i))) in
        from_some (t.last i) t.prev m a.1 ∙ c.prevs m a.1 a.0 ∙ sym (from_some (s.last i) s.prev m a.1))

    pub changed_else : listed size t i ≡ listed size s i
    changed_else = chain_is (t.first i) t.next size (listed size s i) else_ahead
        (omega (arith, sound.each 0, numbered_zero size, sum_part (λ j. tally 0 (listed size s j)) i size k))
        (omega (arith, sound.full, sum_part (λ j. length (listed size s j)) i size k))

  pub changed_sound : Sound size t
  changed_sound = record {
    ahead = λ i k. ⊎_elim
        (λ q. subst (λ j. Goes (from (t.first j) t.next) 0 (listed size t j)) (sym q) (subst (Goes (from (t.first e) t.next) 0) (sym changed_here) c.go))
        (λ ne. subst (Goes (from (t.first i) t.next) 0) (sym (changed_else i k ne)) (else_ahead i k ne))
        (cases_eq i e);
    back = λ i k. ⊎_elim
        (λ q. subst (λ j. Goes (from (t.last j) t.prev) 0 (reverse (listed size t j))) (sym q) (subst (λ ns. Goes (from (t.last e) t.prev) 0 (reverse ns)) (sym changed_here) c.back))
        (λ ne. subst (λ ns. Goes (from (t.last i) t.prev) 0 (reverse ns)) (sym (changed_else i k ne)) (else_back i k ne))
        (cases_eq i e);
    freed = subst (Goes (from t.free t.next) 0) (sym changed_spare) c.freed;
    each = λ m. omega (
      arith,
      sound.each m,
      c.tallies m,
      ap (tally m) changed_here,
      ap (tally m) changed_spare,
      sum_one (λ j. tally m (listed size s j)) (λ j. tally m (listed size t j)) e size l (λ i k ne. ap (tally m) (changed_else i k ne)),
    );
    full = omega (
      arith,
      sound.full,
      c.lengths,
      ap length changed_here,
      ap length changed_spare,
      sum_one (λ j. length (listed size s j)) (λ j. length (listed size t j)) e size l (λ i k ne. ap length (changed_else i k ne)),
    );
  }

  pub relinked : Relinked size s t e cs fs
  relinked = record { sound = changed_sound; here = changed_here; free = changed_spare; else = changed_else }

-- ---- a number is taken out of a list, and is the first free one then

module _ (size : ℕ) (s : Links) (sound : Sound size s) (e : ℕ) (l : e < size) (ls : List ℕ) (n : ℕ) (rs : List ℕ) (is : listed size s e ≡ ls ++ n ∷ rs) where
  out_once : (m : ℕ) → tally m (0 ∷ ls) + (one m n + (tally m rs + tally m (spare size s))) ≤ 1
  out_once m = omega (arith, once size s sound e m l, ap (tally m) is, tally_append m ls (n ∷ rs))

  pub out_in : (0 < n) × (n ≤ size)
  out_in = within size s sound e n l (omega (arith, ap (tally n) is, tally_append n ls (n ∷ rs), one_same n))

  go : Goes (from (s.first e) s.next) 0 (ls ++ n ∷ rs)
  go = subst (Goes (from (s.first e) s.next) 0) is (sound.ahead e l)

  back : Goes (from (s.last e) s.prev) 0 (reverse rs ++ n ∷ reverse ls)
  back = subst (Goes (from (s.last e) s.prev) 0) (ap reverse is ∙ reverse_mid ls n rs) (sound.back e l)

  pub out_prev : s.prev n ≡ last_or 0 ls
  out_prev = sym (from_some (s.last e) s.prev n out_in.0) ∙ goes_at (from (s.last e) s.prev) 0 (reverse rs) n (reverse ls) back ∙ head_reverse 0 ls

  pub out_next : s.next n ≡ head_or rs 0
  out_next = sym (from_some (s.first e) s.next n out_in.0) ∙ goes_at (from (s.first e) s.next) 0 ls n rs go

  -- what a number leads to, or 0 for the head, is within the table
  edge : (m : ℕ) → 0 < tally m (0 ∷ ls) + tally m rs → m ≤ size
  edge zero h = omega arith
  edge (suc k) h = (within size s sound e (suc k) l (omega (arith, ap (tally (suc k)) is, tally_append (suc k) ls (n ∷ rs), one_other (suc k) 0 (λ z. omega arith)))).1

  pub out_prev_in : s.prev n ≤ size
  out_prev_in = subst (λ m. m ≤ size) (sym out_prev) (edge (last_or 0 ls) (omega (arith, last_in 0 ls)))

  pub out_next_in : s.next n ≤ size
  out_next_in = subst (λ m. m ≤ size) (sym out_next) (edge (head_or rs 0) (omega (arith, head_among rs)))

  prev_apart : last_or 0 ls ≢ n
  prev_apart = differ (0 ∷ ls) (n ∷ []) (last_or 0 ls) n (λ m. omega (arith, out_once m)) (last_in 0 ls) (tally_head n [])

  module _ (t : Links) (next : ℕ → ℕ) (tied : Tied s.next s.prev (s.first e) (s.last e) next t.prev (t.first e) (t.last e) (s.prev n) (s.next n))
      (led : Led next t.next n s.free) (heads : t.free ≡ n)
      (firsts : (i : ℕ) → i ≢ e → t.first i ≡ s.first i) (lasts : (i : ℕ) → i ≢ e → t.last i ≡ s.last i) where
    -- the head and every number but n lead as the tie left them
    leads : (m : ℕ) → m ≢ n → from (t.first e) t.next m ≡ from (t.first e) next m
    leads zero ne = refl
    leads (suc m) ne = led.else (suc m) (omega arith) ne

    ties : (m : ℕ) → 0 < m → m ≢ n → m ≢ last_or 0 ls → t.next m ≡ s.next m
    ties m o ne pe = led.else m o ne ∙ sym (from_some (t.first e) next m o) ∙ tied.next_else m (λ z. pe (z ∙ out_prev)) ∙ from_some (s.first e) s.next m o

    pub taken : Change size s t e (ls ++ rs) (n ∷ spare size s)
    taken = record {
      go = goes_out (from (s.first e) s.next) (from (t.first e) t.next) 0 ls n rs go
          (λ m. omega (arith, out_once m, tally_append m ls (n ∷ rs)))
          (leads (last_or 0 ls) prev_apart ∙ subst (λ (p : ℕ). from (t.first e) next p ≡ s.next n) out_prev tied.next_here ∙ sym (from_some (s.first e) s.next n out_in.0))
          (λ m p k. leads m k ∙ tied.next_else m (λ z. p (z ∙ out_prev)));
      back = subst (Goes (from (t.last e) t.prev) 0) (sym (reverse-append ls rs))
          (goes_out (from (s.last e) s.prev) (from (t.last e) t.prev) 0 (reverse rs) n (reverse ls) back
          (λ m. omega (arith, out_once m, tally_append m (reverse rs) (n ∷ reverse ls), tally_reverse m rs, tally_reverse m ls))
          (subst (λ (q : ℕ). from (t.last e) t.prev q ≡ s.prev n) (out_next ∙ sym (last_reverse 0 rs)) tied.prev_here ∙ sym (from_some (s.last e) s.prev n out_in.0))
          (λ m q k. tied.prev_else m (λ z. q (z ∙ out_next ∙ sym (last_reverse 0 rs)))));
      freed = (
        heads,
        goes_frame (from s.free s.next) (from t.free t.next) 0 n (spare size s) sound.freed
            (from_some t.free t.next n out_in.0 ∙ led.here)
            (λ m i.
            let o = (within size s sound e m l (omega arith)).0 in
            let mn : m ≢ n = λ z. differ (n ∷ []) (spare size s) n m (λ k. omega (arith, out_once k)) (tally_head n []) i (sym z) in
            let mp : m ≢ last_or 0 ls = λ z. differ (0 ∷ ls) (spare size s) (last_or 0 ls) m (λ k. omega (arith, out_once k)) (last_in 0 ls) i (sym z) in
            from_some t.free t.next m o ∙ ties m o mn mp ∙ sym (from_some s.free s.next m o)),
      );
      tallies = λ m. omega (arith, ap (tally m) is, tally_append m ls rs, tally_append m ls (n ∷ rs));
      lengths = omega (arith, ap length is, length-append ls rs, length-append ls (n ∷ rs));
      firsts = firsts;
      lasts = lasts;
      nexts = λ m o z.
          let a = tally_append m ls (n ∷ rs) in let b = ap (tally m) is in
          let mn : m ≢ n = λ y. let c : tally m (n ∷ []) ≡ tally n (n ∷ []) = ap (λ k. tally k (n ∷ [])) y in omega (arith, one_same n) in
          let mp : m ≢ last_or 0 ls = λ y. let c : tally m (0 ∷ ls) ≡ tally (last_or 0 ls) (0 ∷ ls) = ap (λ k. tally k (0 ∷ ls)) y in omega (arith, last_in 0 ls, one_other m 0 (λ w. omega arith)) in
          ties m o mn mp;
      prevs = λ m o z.
          let a = tally_append m ls (n ∷ rs) in let b = ap (tally m) is in
          let mq : m ≢ head_or rs 0 = λ y. let c : tally m (0 ∷ rs) ≡ tally (head_or rs 0) (0 ∷ rs) = ap (λ k. tally k (0 ∷ rs)) y in omega (arith, head_among rs, one_other m 0 (λ w. omega arith)) in
          sym (from_some (t.last e) t.prev m o) ∙ tied.prev_else m (λ y. mq (y ∙ out_next)) ∙ from_some (s.last e) s.prev m o;
    }

-- ---- the first free number is put into a list

module _ (size : ℕ) (s : Links) (sound : Sound size s) (some : 0 < s.free) where
  -- the free numbers after the first
  pub spare_split : (fs : List ℕ) × (spare size s ≡ s.free ∷ fs)
  spare_split = split_head s.free (spare size s) sound.freed some
    where
      split_head : (h : ℕ) (xs : List ℕ) → Goes (from h s.next) 0 xs → 0 < h → (ys : List ℕ) × (xs ≡ h ∷ ys)
      split_head h [] g o = absurd (omega (arith, g))
      split_head h (x ∷ xs) g o = (xs, ap (λ (y : ℕ). y ∷ xs) (sym g.0))

  module _ (e : ℕ) (l : e < size) (ls rs : List ℕ) (is : listed size s e ≡ ls ++ rs) where
    abbrev fs : List ℕ
    fs = spare_split.0

    in_once : (m : ℕ) → tally m (0 ∷ ls) + (one m s.free + (tally m rs + tally m fs)) ≤ 1
    in_once m = omega (arith, once size s sound e m l, ap (tally m) is, ap (tally m) spare_split.1, tally_append m ls rs)

    pub in_free : s.free ≤ size
    in_free = (within size s sound e s.free l (omega (arith, ap (tally s.free) spare_split.1, one_same s.free))).1

    in_go : Goes (from (s.first e) s.next) 0 (ls ++ rs)
    in_go = subst (Goes (from (s.first e) s.next) 0) is (sound.ahead e l)

    in_back : Goes (from (s.last e) s.prev) 0 (reverse rs ++ reverse ls)
    in_back = subst (Goes (from (s.last e) s.prev) 0) (ap reverse is ∙ reverse-append ls rs) (sound.back e l)

    pub in_next : from (s.first e) s.next (last_or 0 ls) ≡ head_or rs 0
    in_next = goes_after (from (s.first e) s.next) 0 ls rs in_go

    in_prev : from (s.last e) s.prev (last_or 0 (reverse rs)) ≡ last_or 0 ls
    in_prev = goes_after (from (s.last e) s.prev) 0 (reverse rs) (reverse ls) in_back ∙ head_reverse 0 ls

    in_edge : (m : ℕ) → 0 < tally m (0 ∷ ls) + tally m rs → m ≤ size
    in_edge zero h = omega arith
    in_edge (suc k) h = (within size s sound e (suc k) l (omega (arith, ap (tally (suc k)) is, tally_append (suc k) ls rs, one_other (suc k) 0 (λ z. omega arith)))).1

    pub in_left : last_or 0 ls ≤ size
    in_left = in_edge (last_or 0 ls) (omega (arith, last_in 0 ls))

    pub in_right : head_or rs 0 ≤ size
    in_right = in_edge (head_or rs 0) (omega (arith, head_among rs))

    left_apart : last_or 0 ls ≢ s.free
    left_apart = differ (0 ∷ ls) (s.free ∷ []) (last_or 0 ls) s.free (λ m. omega (arith, in_once m)) (last_in 0 ls) (tally_head s.free [])

    right_apart : s.free ≢ head_or rs 0
    right_apart = differ (s.free ∷ []) (0 ∷ rs) s.free (head_or rs 0) (λ m. omega (arith, in_once m)) (tally_head s.free []) (head_among rs)

    module _ (t : Links) (next prev : ℕ → ℕ) (first last p q : ℕ) (is-p : p ≡ last_or 0 ls) (is-q : q ≡ from (s.first e) s.next p)
        (tied : Tied s.next s.prev (s.first e) (s.last e) next prev first last p s.free)
        (again : Tied next prev first last t.next t.prev (t.first e) (t.last e) s.free q)
        (heads : t.free ≡ s.next s.free)
        (firsts : (i : ℕ) → i ≢ e → t.first i ≡ s.first i) (lasts : (i : ℕ) → i ≢ e → t.last i ≡ s.last i) where
      is_right : q ≡ head_or rs 0
      is_right = is-q ∙ ap (from (s.first e) s.next) is-p ∙ in_next

      in_ties : (m : ℕ) → 0 < m → m ≢ s.free → m ≢ last_or 0 ls → t.next m ≡ s.next m
      in_ties m o ne pe = sym (from_some (t.first e) t.next m o) ∙ again.next_else m ne ∙ tied.next_else m (λ z. pe (z ∙ is-p)) ∙ from_some (s.first e) s.next m o

      pub placed : Change size s t e (ls ++ s.free ∷ rs) fs
      placed = record {
        go = goes_in (from (s.first e) s.next) (from (t.first e) t.next) 0 ls s.free rs in_go
            (λ m. omega (arith, in_once m, tally_append m ls (s.free ∷ rs)))
            (again.next_else (last_or 0 ls) left_apart ∙ subst (λ (x : ℕ). from first next x ≡ s.free) is-p tied.next_here)
            (again.next_here ∙ is_right ∙ sym in_next)
            (λ m u v. again.next_else m v ∙ tied.next_else m (λ z. u (z ∙ is-p)));
        back = subst (Goes (from (t.last e) t.prev) 0) (sym (reverse_mid ls s.free rs))
            (goes_in (from (s.last e) s.prev) (from (t.last e) t.prev) 0 (reverse rs) s.free (reverse ls) in_back
            (λ m. omega (arith, in_once m, tally_append m (reverse rs) (s.free ∷ reverse ls), tally_reverse m rs, tally_reverse m ls))
            (subst (λ (x : ℕ). from (t.last e) t.prev x ≡ s.free) (is_right ∙ sym (last_reverse 0 rs)) again.prev_here)
            (again.prev_else s.free (λ z. right_apart (z ∙ is_right)) ∙ tied.prev_here ∙ is-p ∙ sym in_prev)
            (λ m u v. again.prev_else m (λ z. u (z ∙ is_right ∙ sym (last_reverse 0 rs))) ∙ tied.prev_else m v));
        freed = goes_frame (from s.free s.next) (from t.free t.next) s.free 0 fs
            (subst (Goes (from s.free s.next) 0) spare_split.1 sound.freed).1
            (heads ∙ sym (from_some s.free s.next s.free some))
            (λ m i.
            let o = (within size s sound e m l (omega (arith, ap (tally m) spare_split.1))).0 in
            let mn : m ≢ s.free = λ z. differ (s.free ∷ []) fs s.free m (λ k. omega (arith, in_once k)) (tally_head s.free []) i (sym z) in
            let mp : m ≢ last_or 0 ls = λ z. differ (0 ∷ ls) fs (last_or 0 ls) m (λ k. omega (arith, in_once k)) (last_in 0 ls) i (sym z) in
            from_some t.free t.next m o ∙ in_ties m o mn mp ∙ sym (from_some s.free s.next m o));
        tallies = λ m. omega (arith, ap (tally m) is, ap (tally m) spare_split.1, tally_append m ls rs, tally_append m ls (s.free ∷ rs));
        lengths = omega (arith, ap length is, ap length spare_split.1, length-append ls rs, length-append ls (s.free ∷ rs));
        firsts = firsts;
        lasts = lasts;
        nexts = λ m o z.
            let a = tally_append m ls rs in let b = ap (tally m) is in let d = ap (tally m) spare_split.1 in
            let mn : m ≢ s.free = λ y. let c : tally m (s.free ∷ []) ≡ tally s.free (s.free ∷ []) = ap (λ k. tally k (s.free ∷ [])) y in omega (arith, one_same s.free) in
            let mp : m ≢ last_or 0 ls = λ y. let c : tally m (0 ∷ ls) ≡ tally (last_or 0 ls) (0 ∷ ls) = ap (λ k. tally k (0 ∷ ls)) y in omega (arith, last_in 0 ls, one_other m 0 (λ w. omega arith)) in
            in_ties m o mn mp;
        prevs = λ m o z.
            let a = tally_append m ls rs in let b = ap (tally m) is in let d = ap (tally m) spare_split.1 in
            let mn : m ≢ s.free = λ y. let c : tally m (s.free ∷ []) ≡ tally s.free (s.free ∷ []) = ap (λ k. tally k (s.free ∷ [])) y in omega (arith, one_same s.free) in
            let mq : m ≢ head_or rs 0 = λ y. let c : tally m (0 ∷ rs) ≡ tally (head_or rs 0) (0 ∷ rs) = ap (λ k. tally k (0 ∷ rs)) y in omega (arith, head_among rs, one_other m 0 (λ w. omega arith)) in
            sym (from_some (t.last e) t.prev m o) ∙ again.prev_else m (λ y. mq (y ∙ is_right)) ∙ tied.prev_else m mn ∙ from_some (s.last e) s.prev m o;
      }

-- ---- the ends of a list

unsnoc : (a : ℕ) (xs : List ℕ) → 0 < length xs → (ys : List ℕ) × (xs ≡ ys ++ last_or a xs ∷ [])
unsnoc a [] h = absurd (omega arith)
unsnoc a (x ∷ []) h = ([], refl)
unsnoc a (x ∷ y ∷ xs) h = let r = unsnoc x (y ∷ xs) (omega arith) in (x ∷ r.0, ap (λ (zs : List ℕ). x ∷ zs) r.1)

module _ (size : ℕ) (s : Links) (sound : Sound size s) (e : ℕ) (l : e < size) where
  pub first_is : s.first e ≡ head_or (listed size s e) 0
  first_is = goes_after (from (s.first e) s.next) 0 [] (listed size s e) (sound.ahead e l)

  pub last_is : s.last e ≡ last_or 0 (listed size s e)
  last_is = goes_after (from (s.last e) s.prev) 0 [] (reverse (listed size s e)) (sound.back e l) ∙ head_reverse 0 (listed size s e)

  some_in : (n : ℕ) (ns : List ℕ) → listed size s e ≡ n ∷ ns → 0 < n
  some_in n ns is = (within size s sound e n l (omega (arith, ap (tally n) is, one_same n))).0

  first_cases : (ns : List ℕ) → listed size s e ≡ ns → (head_or ns 0 ≡ 0 → ns ≡ []) × (0 < head_or ns 0 → (rs : List ℕ) × (ns ≡ head_or ns 0 ∷ rs))
  first_cases [] is = (λ z. refl, λ o. absurd (omega arith))
  first_cases (n ∷ ns) is = (λ z. absurd (omega (arith, some_in n ns is)), λ o. (ns, refl))

  pub first_none : s.first e ≡ 0 → listed size s e ≡ []
  first_none z = (first_cases (listed size s e) refl).0 (sym first_is ∙ z)

  pub first_split : 0 < s.first e → (rs : List ℕ) × (listed size s e ≡ s.first e ∷ rs)
  first_split o = let r = (first_cases (listed size s e) refl).1 (omega (arith, first_is)) in (r.0, r.1 ∙ ap (λ (n : ℕ). n ∷ r.0) (sym first_is))

  last_cases : (ns : List ℕ) → listed size s e ≡ ns → (last_or 0 ns ≡ 0 → ns ≡ []) × (0 < last_or 0 ns → (ls : List ℕ) × (ns ≡ ls ++ last_or 0 ns ∷ []))
  last_cases [] is = (λ z. refl, λ o. absurd (omega arith))
  last_cases (n ∷ ns) is =
      (λ z. absurd (omega (arith, (within size s sound e (last_or n ns) l (omega (arith, ap (tally (last_or n ns)) is, last_in n ns))).0)), λ o. unsnoc 0 (n ∷ ns) (omega arith))

  pub last_none : s.last e ≡ 0 → listed size s e ≡ []
  last_none z = (last_cases (listed size s e) refl).0 (sym last_is ∙ z)

  pub last_split : 0 < s.last e → (ls : List ℕ) × (listed size s e ≡ ls ++ s.last e ∷ [])
  last_split o = let r = (last_cases (listed size s e) refl).1 (omega (arith, last_is)) in (r.0, r.1 ∙ ap (λ (n : ℕ). r.0 ++ n ∷ []) (sym last_is))
