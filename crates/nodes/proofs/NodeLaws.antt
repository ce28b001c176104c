-- The nodes after a change hold the list after it, none is empty, and a change in one node leaves the others.
use Rattle.std.proofs.Common.{◌≡◌, ℕ, suc, ◌+◌, ◌-◌, ◌<◌, ◌≤◌, Bool, true, false, cond, ltb, List, [], ◌∷◌, ◌++◌, length, take, drop, set, sym, refl, ap, ◌∙◌, ⊎_elim, true≢false, arith}
use Rattle.std.proofs.Math.Seq.{take-append-add, drop-append-add}
use Rattle.std.specs.List.{insert, remove}
use Rattle.std.proofs.lemmas.List.{append-nil, append_assoc, length-append, length-set, length-drop, length-take-le, take_all, take_at, drop_at, take-append-le, drop-append-le, set_split, set-append_left, set-append_right, nil_from_length}
use Rattle.std.proofs.lemmas.List.Edits.{length-remove}
use Rattle.std.proofs.ByRecursion.{All-append}
use Rattle.std.proofs.lemmas.Bool.{ltb-true, ltb-false, lt-ltb, le-ltb, cases_lt, cond-true, cond-false, cond_both}
use Rattle.store.specs.declared.Side.{Side}
use Rattle.store.specs.declared.Side.TheVariants.{Left, Right}
use Rattle.store.specs.Lists.{Value}
use Rattle.store.specs.Answers.{joined, place}
use Rattle.nodes.specs.Nodes.{Nodes, flat, Filled, pushed, unless_empty, cut, popped, put_in, added, swaps, written, changed}

-- ---- edits of two lists one after the other

module _ {X : Type 0} (xs ys : List X) where
  removed_left : (i : ℕ) → i < length xs → remove (xs ++ ys) i ≡ remove xs i ++ ys
  removed_left i l = rw (take-append-le i xs ys (omega arith), drop-append-le (suc i) xs ys l) (sym (append_assoc (take i xs) (drop (suc i) xs) ys))

  removed_right : (j : ℕ) → remove (xs ++ ys) (length xs + j) ≡ xs ++ remove ys j
  removed_right j = let e : suc (length xs + j) ≡ length xs + suc j = omega arith in rw (e, take-append-add xs ys j, drop-append-add xs ys (suc j)) (append_assoc xs (take j ys) (drop (suc j) ys))

  inserted_left : (i : ℕ) (x : X) → i ≤ length xs → insert (xs ++ ys) i x ≡ insert xs i x ++ ys
  inserted_left i x l = rw (take-append-le i xs ys l, drop-append-le i xs ys l) (sym (append_assoc (take i xs) (x ∷ drop i xs) ys))

  inserted_right : (j : ℕ) (x : X) → insert (xs ++ ys) (length xs + j) x ≡ xs ++ insert ys j x
  inserted_right j x = rw (take-append-add xs ys j, drop-append-add xs ys j) (append_assoc xs (take j ys) (x ∷ drop j ys))

-- ---- all values

pub flat_append : (xs ys : Nodes) → flat (xs ++ ys) ≡ flat xs ++ flat ys
flat_append [] ys = refl
flat_append (n ∷ xs) ys = ap (λ r. n ++ r) (flat_append xs ys) ∙ sym (append_assoc n (flat xs) (flat ys))

pub flat_pushed : (tk : List Value → Value → Bool) (s : Side) (ns : Nodes) (v : Value) → flat (pushed tk s ns v) ≡ joined s (flat ns) v
unfolding pushed
flat_pushed tk Left [] v = refl
flat_pushed tk Right [] v = refl
flat_pushed tk Left (n ∷ ns) v = cond_both (tk n v) ((v ∷ n) ∷ ns) ((v ∷ []) ∷ n ∷ ns) (λ ms. flat ms ≡ v ∷ (n ++ flat ns)) (λ e. refl) (λ e. refl)
flat_pushed tk Right (n ∷ []) v = cond_both (tk n v) ((n ++ v ∷ []) ∷ []) (n ∷ (v ∷ []) ∷ []) (λ ms. flat ms ≡ (n ++ []) ++ v ∷ []) (λ e. simp append-nil) (λ e. simp append-nil)
flat_pushed tk Right (n ∷ m ∷ ns) v = ap (λ r. n ++ r) (flat_pushed tk Right (m ∷ ns) v) ∙ sym (append_assoc n (flat (m ∷ ns)) (v ∷ []))

flat_unless_empty : (n : List Value) → flat (unless_empty n) ≡ n
flat_unless_empty [] = refl
flat_unless_empty (v ∷ n) = append-nil (v ∷ n)

pub flat_cut : (ns : Nodes) (i : ℕ) → i < length (flat ns) → flat (cut ns i) ≡ remove (flat ns) i
unfolding cut
flat_cut [] i l = absurd (omega arith)
flat_cut (n ∷ ns) i l =
    let rest = length-append n (flat ns) in
    let ih = flat_cut ns (i - length n) in
    cond_both (ltb i (length n)) (unless_empty (remove n i) ++ ns) (n ∷ cut ns (i - length n)) (λ ms. flat ms ≡ remove (n ++ flat ns) i)
    (λ e. flat_append (unless_empty (remove n i)) ns ∙ ap (λ r. r ++ flat ns) (flat_unless_empty (remove n i)) ∙ sym (removed_left n (flat ns) i (ltb-true i (length n) e)))
    (λ e.
    let past = ltb-false i (length n) e in
    let whole : length n + (i - length n) ≡ i = omega arith in
    ap (λ r. n ++ r) (ih (omega arith)) ∙ sym (removed_right n (flat ns) (i - length n)) ∙ ap (λ k. remove (n ++ flat ns) k) whole)

pub flat_popped : (s : Side) (ns : Nodes) → 0 < length (flat ns) → flat (popped s ns) ≡ remove (flat ns) (place s (length (flat ns)))
flat_popped Left ns l = flat_cut ns 0 l
flat_popped Right ns l = flat_cut ns (length (flat ns) - 1) (omega arith)

flat_put_in : (tk : List Value → Value → Bool) (n : List Value) (j : ℕ) (v : Value) → flat (put_in tk n j v) ≡ insert n j v
flat_put_in tk n j v = go (tk n v) (tk (take j n) v)
  where
    go : (a b : Bool) → flat (cond a (insert n j v ∷ []) (cond b ((take j n ++ v ∷ []) ∷ drop j n ∷ []) (take j n ∷ (v ∷ drop j n) ∷ []))) ≡ insert n j v
    go true b = append-nil (insert n j v)
    go false true = simp (append-nil, append_assoc)
    go false false = simp append-nil

pub flat_added : (tk : List Value → Value → Bool) (ns : Nodes) (i : ℕ) (v : Value) → i ≤ length (flat ns) → flat (added tk ns i v) ≡ insert (flat ns) i v
unfolding added
flat_added tk [] i v l = let none : i ≡ 0 = omega arith in ap (λ k. insert [] k v) (sym none)
flat_added tk (n ∷ []) i v l = flat_put_in tk n i v ∙ ap (λ r. insert r i v) (sym (append-nil n))
flat_added tk (n ∷ m ∷ ns) i v l =
    let rest = length-append n (flat (m ∷ ns)) in
    let ih = flat_added tk (m ∷ ns) (i - length n) v in
    cond_both (ltb i (length n)) (put_in tk n i v ++ m ∷ ns) (n ∷ added tk (m ∷ ns) (i - length n) v) (λ ms. flat ms ≡ insert (n ++ flat (m ∷ ns)) i v)
    (λ e.
    let here = ltb-true i (length n) e in
    flat_append (put_in tk n i v) (m ∷ ns) ∙ ap (λ r. r ++ flat (m ∷ ns)) (flat_put_in tk n i v) ∙ sym (inserted_left n (flat (m ∷ ns)) i v (omega arith)))
    (λ e.
    let past = ltb-false i (length n) e in
    let whole : length n + (i - length n) ≡ i = omega arith in
    ap (λ r. n ++ r) (ih (omega arith)) ∙ sym (inserted_right n (flat (m ∷ ns)) (i - length n) v) ∙ ap (λ k. insert (n ++ flat (m ∷ ns)) k v) whole)

flat_written : (ns : Nodes) (i : ℕ) (v : Value) → flat (written ns i v) ≡ set (flat ns) i v
unfolding written
flat_written [] i v = refl
flat_written (n ∷ ns) i v =
    let ih = flat_written ns (i - length n) v in
    cond_both (ltb i (length n)) (set n i v ∷ ns) (n ∷ written ns (i - length n) v) (λ ms. flat ms ≡ set (n ++ flat ns) i v)
    (λ e. sym (set-append_left n (flat ns) i v (ltb-true i (length n) e)))
    (λ e. ap (λ r. n ++ r) ih ∙ sym (set-append_right n (flat ns) (length n) i v refl (ltb-false i (length n) e)))

replaced : (xs : List Value) (i : ℕ) (v : Value) → i < length xs → insert (remove xs i) i v ≡ set xs i v
replaced xs i v l =
    let front = length-take-le i xs (omega arith) in
    rw (take_at (take i xs) (drop (suc i) xs) i front, drop_at (take i xs) (drop (suc i) xs) i front) (sym (set_split xs i v l))

pub flat_changed : (tk : List Value → Value → Bool) (swap : List Value → ℕ → Value → Bool) (ns : Nodes) (i : ℕ) (v : Value) → i < length (flat ns) → flat (changed tk swap ns i v) ≡ set (flat ns) i v
unfolding changed
flat_changed tk swap ns i v l = cond_both (swaps swap ns i v) (written ns i v) (added tk (cut ns i) i v) (λ ms. flat ms ≡ set (flat ns) i v)
    (λ e. flat_written ns i v)
    (λ e.
    let left = ap length (flat_cut ns i l) in
    let less = length-remove (flat ns) i l in
    flat_added tk (cut ns i) i v (omega arith) ∙ ap (λ r. insert r i v) (flat_cut ns i l) ∙ replaced (flat ns) i v l)

-- ---- no empty node

pub filled_pushed : (tk : List Value → Value → Bool) (s : Side) (ns : Nodes) (v : Value) → Filled ns → Filled (pushed tk s ns v)
unfolding pushed
filled_pushed tk Left [] v f = (omega arith, tt)
filled_pushed tk Right [] v f = (omega arith, tt)
filled_pushed tk Left (n ∷ ns) v f = cond_both (tk n v) ((v ∷ n) ∷ ns) ((v ∷ []) ∷ n ∷ ns) Filled (λ e. (omega arith, f.1)) (λ e. (omega arith, f))
filled_pushed tk Right (n ∷ []) v f = cond_both (tk n v) ((n ++ v ∷ []) ∷ []) (n ∷ (v ∷ []) ∷ []) Filled (λ e. (omega (arith, length-append n (v ∷ [])), tt)) (λ e. (f.0, (omega arith, tt)))
filled_pushed tk Right (n ∷ m ∷ ns) v f = (f.0, filled_pushed tk Right (m ∷ ns) v f.1)

filled_unless_empty : (n : List Value) → Filled (unless_empty n)
filled_unless_empty [] = tt
filled_unless_empty (v ∷ n) = (omega arith, tt)

pub filled_append : (xs ys : Nodes) → Filled xs → Filled ys → Filled (xs ++ ys)
filled_append xs ys f g = All-append (λ n. 0 < length n) xs ys f g

pub filled_cut : (ns : Nodes) (i : ℕ) → Filled ns → Filled (cut ns i)
unfolding cut
filled_cut [] i f = tt
filled_cut (n ∷ ns) i f =
    let ih = filled_cut ns (i - length n) f.1 in
    cond_both (ltb i (length n)) (unless_empty (remove n i) ++ ns) (n ∷ cut ns (i - length n)) Filled
    (λ e. filled_append (unless_empty (remove n i)) ns (filled_unless_empty (remove n i)) f.1)
    (λ e. (f.0, ih))

-- no half is left empty: an empty left half takes the value, and a left half that is the whole node does not
filled_put_in : (tk : List Value → Value → Bool) (n : List Value) (j : ℕ) (v : Value) → tk [] v ≡ true → Filled (put_in tk n j v)
filled_put_in tk n j v lone = go (tk n v) (tk (take j n) v) refl refl
  where
    go : (a b : Bool) → tk n v ≡ a → tk (take j n) v ≡ b → Filled (cond a (insert n j v ∷ []) (cond b ((take j n ++ v ∷ []) ∷ drop j n ∷ []) (take j n ∷ (v ∷ drop j n) ∷ [])))
    go true b p q = (omega (arith, length-append (take j n) (v ∷ drop j n)), tt)
    go false true p q = (
      omega (arith, length-append (take j n) (v ∷ [])),
      (⊎_elim (λ e. omega (arith, length-drop j n)) (λ e. absurd (true≢false (sym q ∙ ap (λ m. tk m v) (take_all j n e) ∙ p))) (cases_lt j (length n)), tt),
    )
    go false false p q = (
      ⊎_elim (λ e. e) (λ e. absurd (true≢false (sym lone ∙ ap (λ m. tk m v) (sym (nil_from_length (take j n) (omega arith))) ∙ q))) (cases_lt 0 (length (take j n))),
      (omega arith, tt),
    )

pub filled_added : (tk : List Value → Value → Bool) (ns : Nodes) (i : ℕ) (v : Value) → tk [] v ≡ true → Filled ns → Filled (added tk ns i v)
unfolding added
filled_added tk [] i v lone f = (omega arith, tt)
filled_added tk (n ∷ []) i v lone f = filled_put_in tk n i v lone
filled_added tk (n ∷ m ∷ ns) i v lone f =
    let ih = filled_added tk (m ∷ ns) (i - length n) v lone f.1 in
    cond_both (ltb i (length n)) (put_in tk n i v ++ m ∷ ns) (n ∷ added tk (m ∷ ns) (i - length n) v) Filled
    (λ e. filled_append (put_in tk n i v) (m ∷ ns) (filled_put_in tk n i v lone) f.1)
    (λ e. (f.0, ih))

filled_written : (ns : Nodes) (i : ℕ) (v : Value) → Filled ns → Filled (written ns i v)
unfolding written
filled_written [] i v f = tt
filled_written (n ∷ ns) i v f =
    let ih = filled_written ns (i - length n) v f.1 in
    cond_both (ltb i (length n)) (set n i v ∷ ns) (n ∷ written ns (i - length n) v) Filled
    (λ e. (omega (arith, length-set n i v, f.0), f.1))
    (λ e. (f.0, ih))

pub filled_changed : (tk : List Value → Value → Bool) (swap : List Value → ℕ → Value → Bool) (ns : Nodes) (i : ℕ) (v : Value) → tk [] v ≡ true → Filled ns → Filled (changed tk swap ns i v)
unfolding changed
filled_changed tk swap ns i v lone f = cond_both (swaps swap ns i v) (written ns i v) (added tk (cut ns i) i v) Filled
    (λ e. filled_written ns i v f)
    (λ e. filled_added tk (cut ns i) i v lone (filled_cut ns i f))

pub few_nodes : (ns : Nodes) → Filled ns → length ns ≤ length (flat ns)
few_nodes [] f = omega arith
few_nodes (n ∷ ns) f = omega (arith, length-append n (flat ns), few_nodes ns f.1, f.0)

-- ---- the change of one node, n, with the nodes xs before it and ys behind it

pub pushed_none : (tk : List Value → Value → Bool) (s : Side) (v : Value) → pushed tk s [] v ≡ (v ∷ []) ∷ []
unfolding pushed
pushed_none tk s v = refl

pub pushed_left_at : (tk : List Value → Value → Bool) (n : List Value) (ys : Nodes) (v : Value) → pushed tk Left (n ∷ ys) v ≡ cond (tk n v) ((v ∷ n) ∷ ys) ((v ∷ []) ∷ n ∷ ys)
unfolding pushed
pushed_left_at tk n ys v = refl

pub pushed_right_at : (tk : List Value → Value → Bool) (xs : Nodes) (n : List Value) (v : Value) → pushed tk Right (xs ++ n ∷ []) v ≡ xs ++ cond (tk n v) ((n ++ v ∷ []) ∷ []) (n ∷ (v ∷ []) ∷ [])
unfolding pushed
pushed_right_at tk [] n v = refl
pushed_right_at tk (m ∷ []) n v = refl
pushed_right_at tk (m ∷ k ∷ xs) n v = ap (λ r. m ∷ r) (pushed_right_at tk (k ∷ xs) n v)

length_last : (xs : Nodes) (n : List Value) → length (flat (xs ++ n ∷ [])) ≡ length (flat xs) + length n
length_last xs n = ap length (flat_append xs (n ∷ [])) ∙ length-append (flat xs) (n ++ []) ∙ ap (λ r. length (flat xs) + length r) (append-nil n)

-- past the first node
beyond : (m : List Value) (ms : Nodes) (j : ℕ) → (ltb (length (m ++ flat ms) + j) (length m) ≡ false) × (length (m ++ flat ms) + j - length m ≡ length (flat ms) + j)
beyond m ms j = let all = length-append m (flat ms) in (le-ltb (length (m ++ flat ms) + j) (length m) (omega arith), omega arith)

pub cut_at : (xs : Nodes) (n : List Value) (ys : Nodes) (j : ℕ) → j < length n → cut (xs ++ n ∷ ys) (length (flat xs) + j) ≡ xs ++ (unless_empty (remove n j) ++ ys)
unfolding cut
cut_at [] n ys j l = let e : 0 + j ≡ j = omega arith in rw e (cond-true (ltb j (length n)) (unless_empty (remove n j) ++ ys) (n ∷ cut ys (j - length n)) (lt-ltb j (length n) l))
cut_at (m ∷ xs) n ys j l =
    let b = beyond m xs j in
    let i = length (m ++ flat xs) + j in
    cond-false (ltb i (length m)) (unless_empty (remove m i) ++ (xs ++ n ∷ ys)) (m ∷ cut (xs ++ n ∷ ys) (i - length m)) b.0 ∙ ap (λ k. m ∷ cut (xs ++ n ∷ ys) k) b.1 ∙ ap (λ r. m ∷ r) (cut_at xs n ys j l)

added_first : (tk : List Value → Value → Bool) (n : List Value) (ys : Nodes) (j : ℕ) (v : Value) → j < length n → added tk (n ∷ ys) j v ≡ put_in tk n j v ++ ys
unfolding added
added_first tk n [] j v l = sym (append-nil (put_in tk n j v))
added_first tk n (m ∷ ys) j v l = cond-true (ltb j (length n)) (put_in tk n j v ++ m ∷ ys) (n ∷ added tk (m ∷ ys) (j - length n) v) (lt-ltb j (length n) l)

added_later : (tk : List Value → Value → Bool) (m : List Value) (xs : Nodes) (n : List Value) (ys : Nodes) (i : ℕ) (v : Value) → ltb i (length m) ≡ false → added tk (m ∷ (xs ++ n ∷ ys)) i v ≡ m ∷ added tk (xs ++ n ∷ ys) (i - length m) v
unfolding added
added_later tk m [] n ys i v e = cond-false (ltb i (length m)) (put_in tk m i v ++ n ∷ ys) (m ∷ added tk (n ∷ ys) (i - length m) v) e
added_later tk m (k ∷ xs) n ys i v e = cond-false (ltb i (length m)) (put_in tk m i v ++ k ∷ (xs ++ n ∷ ys)) (m ∷ added tk (k ∷ (xs ++ n ∷ ys)) (i - length m) v) e

pub added_none : (tk : List Value → Value → Bool) (i : ℕ) (v : Value) → added tk [] i v ≡ (v ∷ []) ∷ []
unfolding added
added_none tk i v = refl

pub added_at : (tk : List Value → Value → Bool) (xs : Nodes) (n : List Value) (ys : Nodes) (j : ℕ) (v : Value) → j < length n → added tk (xs ++ n ∷ ys) (length (flat xs) + j) v ≡ xs ++ (put_in tk n j v ++ ys)
added_at tk [] n ys j v l = let e : 0 + j ≡ j = omega arith in rw e (added_first tk n ys j v l)
added_at tk (m ∷ xs) n ys j v l =
    let b = beyond m xs j in
    added_later tk m xs n ys (length (m ++ flat xs) + j) v b.0 ∙ ap (λ k. m ∷ added tk (xs ++ n ∷ ys) k v) b.1 ∙ ap (λ r. m ∷ r) (added_at tk xs n ys j v l)

added_last : (tk : List Value → Value → Bool) (xs : Nodes) (n : List Value) (v : Value) → added tk (xs ++ n ∷ []) (length (flat xs) + length n) v ≡ xs ++ put_in tk n (length n) v
unfolding added
added_last tk [] n v = let e : 0 + length n ≡ length n = omega arith in rw e refl
added_last tk (m ∷ xs) n v =
    let b = beyond m xs (length n) in
    added_later tk m xs n [] (length (m ++ flat xs) + length n) v b.0 ∙ ap (λ k. m ∷ added tk (xs ++ n ∷ []) k v) b.1 ∙ ap (λ r. m ∷ r) (added_last tk xs n v)

pub added_end : (tk : List Value → Value → Bool) (xs : Nodes) (n : List Value) (v : Value) → added tk (xs ++ n ∷ []) (length (flat (xs ++ n ∷ []))) v ≡ xs ++ put_in tk n (length n) v
added_end tk xs n v = ap (λ k. added tk (xs ++ n ∷ []) k v) (length_last xs n) ∙ added_last tk xs n v

swaps_at : (swap : List Value → ℕ → Value → Bool) (xs : Nodes) (n : List Value) (ys : Nodes) (j : ℕ) (v : Value) → j < length n → swaps swap (xs ++ n ∷ ys) (length (flat xs) + j) v ≡ swap n j v
unfolding swaps
swaps_at swap [] n ys j v l = let e : 0 + j ≡ j = omega arith in rw e (cond-true (ltb j (length n)) (swap n j v) (swaps swap ys (j - length n) v) (lt-ltb j (length n) l))
swaps_at swap (m ∷ xs) n ys j v l =
    let b = beyond m xs j in
    let i = length (m ++ flat xs) + j in
    cond-false (ltb i (length m)) (swap m i v) (swaps swap (xs ++ n ∷ ys) (i - length m) v) b.0 ∙ ap (λ k. swaps swap (xs ++ n ∷ ys) k v) b.1 ∙ swaps_at swap xs n ys j v l

written_at : (xs : Nodes) (n : List Value) (ys : Nodes) (j : ℕ) (v : Value) → j < length n → written (xs ++ n ∷ ys) (length (flat xs) + j) v ≡ xs ++ set n j v ∷ ys
unfolding written
written_at [] n ys j v l = let e : 0 + j ≡ j = omega arith in rw e (cond-true (ltb j (length n)) (set n j v ∷ ys) (n ∷ written ys (j - length n) v) (lt-ltb j (length n) l))
written_at (m ∷ xs) n ys j v l =
    let b = beyond m xs j in
    let i = length (m ++ flat xs) + j in
    cond-false (ltb i (length m)) (set m i v ∷ (xs ++ n ∷ ys)) (m ∷ written (xs ++ n ∷ ys) (i - length m) v) b.0 ∙ ap (λ k. m ∷ written (xs ++ n ∷ ys) k v) b.1 ∙ ap (λ r. m ∷ r) (written_at xs n ys j v l)

module _ (tk : List Value → Value → Bool) (swap : List Value → ℕ → Value → Bool) (xs : Nodes) (n : List Value) (ys : Nodes) (j : ℕ) (v : Value) (l : j < length n) where
  pub changed_at : swap n j v ≡ true → changed tk swap (xs ++ n ∷ ys) (length (flat xs) + j) v ≡ xs ++ set n j v ∷ ys
  unfolding changed
  changed_at e =
      let i = length (flat xs) + j in
      let ns = xs ++ n ∷ ys in
      cond-true (swaps swap ns i v) (written ns i v) (added tk (cut ns i) i v) (swaps_at swap xs n ys j v l ∙ e) ∙ written_at xs n ys j v l

  pub changed_moves : swap n j v ≡ false → changed tk swap (xs ++ n ∷ ys) (length (flat xs) + j) v ≡ added tk (cut (xs ++ n ∷ ys) (length (flat xs) + j)) (length (flat xs) + j) v
  unfolding changed
  changed_moves e =
      let i = length (flat xs) + j in
      let ns = xs ++ n ∷ ys in
      cond-false (swaps swap ns i v) (written ns i v) (added tk (cut ns i) i v) (swaps_at swap xs n ys j v l ∙ e)
