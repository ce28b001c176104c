-- How many bytes the listpacks of values have.
use Rattle.std.proofs.Common.{◌≡◌, ℕ, zero, suc, ◌+◌, ◌*◌, ◌<◌, ◌≤◌, true, false, List, [], ◌∷◌, ◌++◌, length, get_or, take, drop, set, sym, refl, ap, ◌∙◌, append_assoc, add-one, arith}
use Rattle.std.specs.List.{insert, remove}
use Rattle.std.proofs.lemmas.List.{append-nil, length-append, take-append-drop, drop_more, set_split}
use Rattle.std.proofs.lemmas.Bool.{le-leb, leb-false}
use Rattle.store.specs.Limits.{longest_value}
use Rattle.store.specs.Lists.{Value}
use Rattle.entry.specs.Entry.{entry}
use Rattle.listpack.specs.Layout.{most_bytes, entries, total, Shorts}
use Rattle.listpack.specs.Packs.{takes}
use Rattle.listpack.proofs.Codec.{entry_some, entry_few}

pub entries_append : (us vs : List Value) → entries (us ++ vs) ≡ entries us ++ entries vs
unfolding entries
entries_append [] vs = refl
entries_append (u ∷ us) vs = ap (λ bs. entry u ++ bs) (entries_append us vs) ∙ sym (append_assoc (entry u) (entries us) (entries vs))

pub entries_more : (v : Value) (vs : List Value) → entries (v ∷ vs) ≡ entry v ++ entries vs
unfolding entries
entries_more v vs = refl

pub entries_none : entries [] ≡ []
unfolding entries
entries_none = refl

pub entries_one : (v : Value) → entries (v ∷ []) ≡ entry v
entries_one v = entries_more v [] ∙ ap (λ bs. entry v ++ bs) entries_none ∙ append-nil (entry v)

pub total_none : total [] ≡ 7
total_none = omega (arith, ap length entries_none)

pub total_append : (us vs : List Value) → total (us ++ vs) + 7 ≡ total us + total vs
total_append us vs = omega (arith, ap length (entries_append us vs), length-append (entries us) (entries vs))

pub total_more : (v : Value) (vs : List Value) → total (v ∷ vs) ≡ length (entry v) + total vs
total_more v vs = omega (arith, ap length (entries_more v vs), length-append (entry v) (entries vs))

-- the two sides of a split
pub total_split : (i : ℕ) (vs : List Value) → total (take i vs) + total (drop i vs) ≡ total vs + 7
total_split i vs = omega (arith, total_append (take i vs) (drop i vs), ap total (take-append-drop i vs))

pub total_insert : (vs : List Value) (i : ℕ) (v : Value) → total (insert vs i v) ≡ total vs + length (entry v)
total_insert vs i v = omega (arith, total_append (take i vs) (v ∷ drop i vs), total_more v (drop i vs), total_split i vs)

-- the entry at an index counts once
total_at : (vs : List Value) (i : ℕ) → i < length vs → total (take i vs) + length (entry (get_or vs i [])) + total (drop (suc i) vs) ≡ total vs + 7
total_at vs i h =
    let e : drop i vs ≡ get_or vs i [] ∷ drop (suc i) vs = rw add-one at (drop_more vs i [] h) in
    omega (arith, total_split i vs, ap total e, total_more (get_or vs i []) (drop (suc i) vs))

pub total_remove : (vs : List Value) (i : ℕ) → i < length vs → total (remove vs i) + length (entry (get_or vs i [])) ≡ total vs
total_remove vs i h = omega (arith, total_at vs i h, total_append (take i vs) (drop (suc i) vs))

pub total_set : (vs : List Value) (i : ℕ) (v : Value) → i < length vs → total (set vs i v) + length (entry (get_or vs i [])) ≡ total vs + length (entry v)
total_set vs i v h = omega (arith, total_at vs i h, ap total (set_split vs i v h), total_append (take i vs) (v ∷ drop (suc i) vs), total_more v (drop (suc i) vs))

-- a value that is short enough fits where there is none
pub lone : (v : Value) → length v ≤ longest_value → takes [] v ≡ true
unfolding takes
lone v h = le-leb (total (v ∷ [])) most_bytes (omega (arith, total_more v [], total_none, entry_few v h))

-- a value that does not fit, nor left of a split, fits right of it
pub takes_split : (vs : List Value) (j : ℕ) (v : Value) → length v ≤ longest_value → total vs ≤ most_bytes → takes (take j vs) v ≡ false → takes (drop j vs) v ≡ true
unfolding takes
takes_split vs j v h l n =
    le-leb (total (v ∷ drop j vs)) most_bytes
    (omega (arith, leb-false (total (v ∷ take j vs)) most_bytes n, total_more v (take j vs), total_more v (drop j vs), total_split j vs, entry_few v h))

-- no entry has fewer than two bytes
pub entries_long : (vs : List Value) → Shorts vs → 2 * length vs ≤ length (entries vs)
entries_long [] h = omega arith
entries_long (v ∷ vs) h = omega (arith, entries_long vs (λ k. h (suc k)), entry_some v (h zero), total_more v vs)

pub count_few : (vs : List Value) → Shorts vs → total vs ≤ most_bytes → length vs ≤ 250
count_few vs h l = omega (arith, entries_long vs h)
