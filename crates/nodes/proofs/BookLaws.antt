-- What records of nodes show: the list of a key, how many elements, and what changes when one record is written over.
use Rattle.std.proofs.Common.{◌≡◌, ℕ, zero, suc, ◌+◌, ◌<◌, ◌≤◌, Bool, true, false, cond, ltb, List, [], ◌∷◌, ◌++◌, map, length, set, sym, refl, ap, ◌∙◌, subst, ⊎_elim, arith}
use Rattle.std.specs.Ordering.{is_eq}
use Rattle.std.specs.List.{AllByRecursion}
use Rattle.std.proofs.lemmas.List.{append-nil, length-append, length-map, length-set, get_or-set_same, get_or-set_other}
use Rattle.std.proofs.lemmas.List.Sums.{sum_by-cons}
use Rattle.std.proofs.lemmas.Bool.{ltb-true, cases_eq, cond_both}
use Rattle.std.proofs.ByRecursion.{All-append}
use Rattle.order.specs.Keys.{Key, key_order, longest_key}
use Rattle.store.specs.Limits.{longest_value}
use Rattle.store.specs.Lists.{Value, at, put, held}
use Rattle.store.specs.Rows.{Row, Short, values_of}
use Rattle.store.proofs.ListLaws.{order_same, order_apart}
use Rattle.store.proofs.RowLaws.{at_rows, held_rows, values_append, rows_put}
use Rattle.nodes.specs.Nodes.{Nodes, flat, Filled}
use Rattle.nodes.specs.Books.{Book, nodes_at, rows_in_book, book_lists, all_nodes, in_use, record_at, Absent, Alone, Apart}
use Rattle.nodes.proofs.NodeLaws.{flat_append, filled_append, few_nodes}

-- ---- the lists

values_named : (k q : Key) (vs : List Value) (t : Bool) → is_eq (key_order k q) ≡ t → values_of k (map (λ v. (q, v)) vs) ≡ cond t vs []
unfolding values_of
values_named k q [] true e = refl
values_named k q [] false e = refl
values_named k q (v ∷ vs) true e = let r = values_of k (map (λ w. (q, w)) vs) in ap (λ t. cond t (v ∷ r) r) e ∙ ap (λ ws. v ∷ ws) (values_named k q vs true e)
values_named k q (v ∷ vs) false e = let r = values_of k (map (λ w. (q, w)) vs) in ap (λ t. cond t (v ∷ r) r) e ∙ values_named k q vs false e

flat_cond : (t : Bool) (ns ms : Nodes) → cond t (flat ns) [] ++ flat ms ≡ flat (cond t (ns ++ ms) ms)
flat_cond true ns ms = sym (flat_append ns ms)
flat_cond false ns ms = refl

values_in_book : (k : Key) (b : Book) → values_of k (rows_in_book b) ≡ flat (nodes_at k b)
unfolding rows_in_book nodes_at values_of
values_in_book k [] = refl
values_in_book k (r ∷ b) =
    let t = is_eq (key_order k r.0) in
    let own = map (λ v. (r.0, v)) (flat r.1) in
    values_append k own (rows_in_book b) ∙ ap (λ vs. values_of k own ++ vs) (values_in_book k b) ∙ ap (λ vs. vs ++ flat (nodes_at k b)) (values_named k r.0 (flat r.1) t refl) ∙ flat_cond t r.1 (nodes_at k b)

pub shown : (b : Book) (k : Key) → at (book_lists b) k ≡ flat (nodes_at k b)
shown b k = at_rows k (rows_in_book b) ∙ values_in_book k b

length_flat : (xs ys : Nodes) → length (flat (xs ++ ys)) ≡ length (flat xs) + length (flat ys)
length_flat xs ys = ap length (flat_append xs ys) ∙ length-append (flat xs) (flat ys)

rows_all : (b : Book) → length (rows_in_book b) ≡ length (flat (all_nodes b))
unfolding rows_in_book all_nodes
rows_all [] = refl
rows_all (r ∷ b) =
    let own : List Row = map (λ v. (r.0, v)) (flat r.1) in
    let each : length own ≡ length (flat r.1) = length-map (flat r.1) (λ v. (r.0, v)) in
    omega (arith, length-append own (rows_in_book b), length_flat r.1 (all_nodes b), rows_all b)

pub held_book : (b : Book) → held (book_lists b) ≡ length (flat (all_nodes b))
held_book b = held_rows (rows_in_book b) ∙ rows_all b

-- ---- the record of a key

-- a record that is not in use, or has another key
skipped : (k q : Key) (ns : Nodes) (b : Book) → (0 < length ns → q ≡ k → ⊥) → nodes_at k ((q, ns) ∷ b) ≡ nodes_at k b
unfolding nodes_at
skipped k q [] b h = cond_both (is_eq (key_order k q)) (nodes_at k b) (nodes_at k b) (λ ns. ns ≡ nodes_at k b) (λ e. refl) (λ e. refl)
skipped k q (n ∷ ns) b h = ap (λ t. cond t ((n ∷ ns) ++ nodes_at k b) (nodes_at k b)) (order_apart k q (λ e. h (omega arith) (sym e)))

pub missing : (b : Book) (k : Key) → Absent k b → nodes_at k b ≡ []
unfolding nodes_at
missing [] k h = refl
missing (r ∷ b) k h = skipped k r.0 r.1 b (h 0 (omega arith)) ∙ missing b k (λ i l. h (suc i) (omega arith))

pub missing_alone : (b : Book) (k : Key) (e : ℕ) → Absent k b → Alone k e b
missing_alone b k e h i l n = h i l

pub found : (b : Book) (e : ℕ) (k : Key) → e < length b → (record_at b e).0 ≡ k → Alone k e b → nodes_at k b ≡ (record_at b e).1
unfolding nodes_at
found [] e k l h a = absurd (omega arith)
found (r ∷ b) zero k l h a =
    ap (λ t. cond t (r.1 ++ nodes_at k b) (nodes_at k b)) (order_same k r.0 (sym h)) ∙ ap (λ ns. r.1 ++ ns) (missing b k (λ i m. a (suc i) (omega arith) (λ q. omega arith))) ∙ append-nil r.1
found (r ∷ b) (suc e) k l h a = skipped k r.0 r.1 b (a 0 (omega arith) (λ q. omega arith)) ∙ found b e k (omega arith) h (λ i m n. a (suc i) (omega arith) (λ q. n (omega arith)))

-- ---- a record is written over

alone_set : (b : Book) (e : ℕ) (k : Key) (r : Key × Nodes) → Alone k e b → Alone k e (set b e r)
alone_set b e k r a i l n p q =
    let same = get_or-set_other b e i r ([], []) n in
    a i (omega (arith, length-set b e r)) n (subst (λ (x : Key × Nodes). 0 < length x.1) same p) (ap (λ x. x.0) (sym same) ∙ q)

pub set_same : (b : Book) (e : ℕ) (k : Key) (ns : Nodes) → e < length b → Alone k e b → nodes_at k (set b e (k, ns)) ≡ ns
set_same b e k ns l a =
    let here = get_or-set_same b e (k, ns) ([], []) l in
    found (set b e (k, ns)) e k (omega (arith, length-set b e (k, ns))) (ap (λ x. x.0) here) (alone_set b e k (k, ns) a) ∙ ap (λ x. x.1) here

pub set_other : (b : Book) (e : ℕ) (k q : Key) (ns : Nodes) → e < length b → (q ≡ k → ⊥) → (0 < length (record_at b e).1 → (record_at b e).0 ≡ k) → nodes_at q (set b e (k, ns)) ≡ nodes_at q b
unfolding nodes_at
set_other [] e k q ns l n h = absurd (omega arith)
set_other (r ∷ b) zero k q ns l n h = skipped q k ns b (λ p e. n (sym e)) ∙ sym (skipped q r.0 r.1 b (λ p e. n (sym e ∙ h p)))
set_other (r ∷ b) (suc e) k q ns l n h = ap (λ ms. cond (is_eq (key_order q r.0)) (r.1 ++ ms) ms) (set_other b e k q ns (omega arith) n h)

pub set_lists : (b : Book) (e : ℕ) (k : Key) (ns : Nodes) → e < length b → Alone k e b → (0 < length (record_at b e).1 → (record_at b e).0 ≡ k) → book_lists (set b e (k, ns)) ≡ put (book_lists b) k (flat ns)
set_lists b e k ns l a h =
    let new = set b e (k, ns) in
    rows_put (rows_in_book b) (rows_in_book new) k (flat ns)
    (values_in_book k new ∙ ap flat (set_same b e k ns l a))
    (λ q n. values_in_book q new ∙ ap flat (set_other b e k q ns l n h) ∙ sym (values_in_book q b))

pub set_apart : (b : Book) (e : ℕ) (k : Key) (ns : Nodes) → Apart b → Alone k e b → e < length b → Apart (set b e (k, ns))
set_apart b e k ns p a l f m u =
    let new = set b e (k, ns) in
    let size = length-set b e (k, ns) in
    let fresh : (j : ℕ) → j ≡ e → (record_at new j).0 ≡ k = λ j q. ap (λ i. (record_at new i).0) q ∙ ap (λ x. x.0) (get_or-set_same b e (k, ns) ([], []) l) in
    let old : (j : ℕ) → (j ≡ e → ⊥) → record_at new j ≡ record_at b j = λ j n. get_or-set_other b e j (k, ns) ([], []) n in
    let filled : (j : ℕ) → (j ≡ e → ⊥) → 0 < length (record_at new j).1 → 0 < length (record_at b j).1 = λ j n h. subst (λ (x : Key × Nodes). 0 < length x.1) (old j n) h in
    ⊎_elim
    (λ q i w n g h. alone_set b e k (k, ns) a i w (λ x. n (x ∙ sym q)) g (h ∙ fresh f q))
    (λ o i w n g h. ⊎_elim
    (λ q. a f (omega arith) o (filled f o u) (ap (λ x. x.0) (sym (old f o)) ∙ sym h ∙ fresh i q))
    (λ y. p f (omega arith) (filled f o u) i (omega arith) n (filled i y g) (ap (λ x. x.0) (sym (old i y)) ∙ h ∙ ap (λ x. x.0) (old f o)))
    (cases_eq i e))
    (cases_eq f e)

-- ---- how many

pub all_set : (b : Book) (e : ℕ) (k : Key) (ns : Nodes) → e < length b → length (flat (all_nodes (set b e (k, ns)))) + length (flat (record_at b e).1) ≡ length (flat (all_nodes b)) + length (flat ns)
unfolding all_nodes
all_set [] e k ns l = absurd (omega arith)
all_set (r ∷ b) zero k ns l = omega (arith, length_flat ns (all_nodes b), length_flat r.1 (all_nodes b))
all_set (r ∷ b) (suc e) k ns l = omega (arith, length_flat r.1 (all_nodes b), length_flat r.1 (all_nodes (set b e (k, ns))), all_set b e k ns (omega arith))

pub all_set_nodes : (b : Book) (e : ℕ) (k : Key) (ns : Nodes) → e < length b → length (all_nodes (set b e (k, ns))) + length (record_at b e).1 ≡ length (all_nodes b) + length ns
unfolding all_nodes
all_set_nodes [] e k ns l = absurd (omega arith)
all_set_nodes (r ∷ b) zero k ns l = omega (arith, length-append ns (all_nodes b), length-append r.1 (all_nodes b))
all_set_nodes (r ∷ b) (suc e) k ns l = omega (arith, length-append r.1 (all_nodes b), length-append r.1 (all_nodes (set b e (k, ns))), all_set_nodes b e k ns (omega arith))

filled_all : (b : Book) → AllByRecursion (λ r. Filled r.1) b → Filled (all_nodes b)
unfolding all_nodes
filled_all [] f = tt
filled_all (r ∷ b) f = filled_append r.1 (all_nodes b) f.0 (filled_all b f.1)

pub few_all : (b : Book) → AllByRecursion (λ r. Filled r.1) b → length (all_nodes b) ≤ length (flat (all_nodes b))
few_all b f = few_nodes (all_nodes b) (filled_all b f)

pub used_few : (b : Book) → in_use b ≤ length (all_nodes b)
unfolding all_nodes
used_few [] = omega arith
used_few (r ∷ b) =
    let one = cond_both (ltb 0 (length r.1)) 1 0 (λ n. n ≤ length r.1) (λ e. omega (arith, ltb-true 0 (length r.1) e)) (λ e. omega arith) in
    omega (arith, sum_by-cons (λ (x : Key × Nodes). cond (ltb 0 (length x.1)) 1 0) r b, length-append r.1 (all_nodes b), used_few b)

-- ---- rows that a store can hold

rows_of_one : (k : Key) (vs : List Value) → length k ≤ longest_key → AllByRecursion (λ v. length v ≤ longest_value) vs → AllByRecursion Short (map (λ v. (k, v)) vs)
rows_of_one k [] l h = tt
rows_of_one k (v ∷ vs) l h = ((l, h.0), rows_of_one k vs l h.1)

pub rows_short : (b : Book) → AllByRecursion (λ r. (length r.0 ≤ longest_key) × AllByRecursion (λ v. length v ≤ longest_value) (flat r.1)) b → AllByRecursion Short (rows_in_book b)
unfolding rows_in_book
rows_short [] h = tt
rows_short (r ∷ b) h = All-append Short (map (λ v. (r.0, v)) (flat r.1)) (rows_in_book b) (rows_of_one r.0 (flat r.1) h.0.0 h.0.1) (rows_short b h.1)
