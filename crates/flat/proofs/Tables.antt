-- A flat store by its rows: how many they are, what stands at a spot, and what a change of the rows makes of the lists.
use Rattle.std.proofs.Common.{◌≡◌, ℕ, ◌<◌, ◌≤◌, List, [], ◌∷◌, ◌++◌, length, get_or, take, set, ltb, Bor, IfSome, Some, None, Option, sym, ap, ◌∙◌, subst, arith}
use Rattle.std.specs.List.{insert, remove}
use Rattle.std.specs.Option.{is_some, IsSome}
use Rattle.std.proofs.lemmas.Bool.Decides.{Decides-ltb}
use Rattle.std.proofs.lemmas.List.{length-map, length-take-le, get_or-map, get_or-take, take_all, drop_all}
use Rattle.order.specs.Keys.{Key, longest_key}
use Rattle.store.specs.declared.Side.{Side}
use Rattle.store.specs.declared.Side.TheVariants.{Left, Right}
use Rattle.store.specs.Answers.{joined, over, Copied}
use Rattle.store.specs.Lists.{Value, at, put, keys_of}
use Rattle.store.specs.Lists.{held as elements}
use Rattle.store.specs.Rows.{Row, values_of, lists_of, spot, AtRank}
use Rattle.store.proofs.RowLaws.{at_rows, held_rows, rows_left, rows_right}
use Rattle.store.proofs.SpotLaws.{spot_row, spot_some, spot_few, rows_removed, rows_set, rows_inserted}
use Rattle.flat.specs.declared.table.Record.{Record}
use Rattle.flat.specs.declared.table.Flat.{Flat}
use Rattle.flat.specs.Records.{key_of, value_of, row, rows, rows_in, lists_in, room_of, flat_laws}
use Rattle.flat.specs.Changes.{joined_rows}
use Rattle.flat.proofs.Ranks.{blank, same_name}

module _ (s : Flat) where
  pub rows_long : length (rows_in s) ≡ s.used
  rows_long = length-map (take s.used s.records.now) row ∙ length-take-le s.used s.records.now s.fits

  pub held_is : elements (lists_of (rows_in s)) ≡ s.used
  held_is = held_rows (rows_in s) ∙ rows_long

  pub len_is : (k : Key) → length (at (lists_of (rows_in s)) k) ≡ length (values_of k (rows_in s))
  len_is k = ap length (at_rows k (rows_in s))

  -- the row of a record in use
  row_there : (i : ℕ) (d : Record) → i < s.used → get_or (rows_in s) i (row d) ≡ row (get_or s.records.now i d)
  row_there i d l = get_or-map row (take s.used s.records.now) i d (row d) (omega (arith, length-take-le s.used s.records.now s.fits)) ∙ ap row (get_or-take s.used s.records.now i d l)

  pub value_there : (k : Key) (i : ℕ) (d : Record) → spot k i (rows_in s) < s.used → value_of (get_or s.records.now (spot k i (rows_in s)) d) ≡ get_or (at (lists_of (rows_in s)) k) i []
  value_there k i d l =
      let m = spot_some k i (rows_in s) (omega (arith, rows_long)) in
      ap (λ p. p.1) (sym (row_there (spot k i (rows_in s)) d l) ∙ (spot_row k i (rows_in s) m (row d)).1) ∙ ap (λ vs. get_or vs i []) (sym (at_rows k (rows_in s)))

  -- of the records in use
  module _ (rs : List Record) (used : rs ≡ take s.used s.records.now) where
    pub held_records : length rs ≡ elements (lists_in s)
    held_records = ap length used ∙ length-take-le s.used s.records.now s.fits ∙ sym held_is

    pub len_records : (k : Key) (n : ℕ) → n ≡ length (values_of k (rows rs)) → n ≡ length (at (lists_in s) k)
    len_records k n e = e ∙ ap (λ xs. length (values_of k (rows xs))) used ∙ sym (len_is k)

  -- the record at the place of an element, where there is one
  module _ (k : Key) (i n : ℕ) (rs : List Record) (used : rs ≡ take s.used s.records.now) (place : n ≡ spot k i (rows_in s)) where
    pub element_there : (n < length rs → i < length (at (lists_in s) k)) × (i < length (at (lists_in s) k) → n < length rs)
    element_there = (
      (λ l. omega (arith, spot_some k i (rows_in s) (omega (arith, rows_long, many)), len_is k)),
      (λ l. omega (arith, many, rows_long, (spot_row k i (rows_in s) (omega (arith, len_is k)) (k, [])).0)),
    )
      where
        many : length rs ≡ s.used
        many = ap length used ∙ length-take-le s.used s.records.now s.fits

    pub element_value : n < length rs → (it : Record) → it ≡ get_or rs n it → value_of it ≡ get_or (at (lists_in s) k) i []
    element_value l it e =
        let m : n < s.used = omega (arith, ap length used, length-take-le s.used s.records.now s.fits) in
        ap value_of (e ∙ ap (λ xs. get_or xs n it) used ∙ get_or-take s.used s.records.now n it m ∙ ap (λ j. get_or s.records.now j it) place) ∙ value_there k i it (omega arith)

-- ---- push

pub rows_joined : (s : Side) (ps : List Row) (k : Key) (v : Value) → lists_of (joined_rows s ps (k, v)) ≡ put (lists_of ps) k (joined s (at (lists_of ps) k) v)
rows_joined Left ps k v = rows_left ps k v
rows_joined Right ps k v = rows_right ps k v

pub pushed_lists : (s s' : Flat) (side : Side) (it : Record) → rows_in s' ≡ joined_rows side (rows_in s) (row it) → lists_in s' ≡ put (lists_in s) (key_of it) (joined side (at (lists_in s) (key_of it)) (value_of it))
pushed_lists s s' side it h = ap lists_of h ∙ rows_joined side (rows_in s) (key_of it) (value_of it)

pub pushed_right : (s s' : Flat) (side : Side) (it : Record) → side ≡ Right → rows_in s' ≡ insert (rows_in s) s.used (row it) → lists_in s' ≡ put (lists_in s) (key_of it) (joined side (at (lists_in s) (key_of it)) (value_of it))
pushed_right s s' side it e h =
    let ps = rows_in s in
    let p = row it in
    let r : rows_in s' ≡ ps ++ p ∷ [] = h ∙ ap (λ n. insert ps n p) (sym (rows_long s)) ∙ (λ j. take_all (length ps) ps (omega arith) j ++ p ∷ drop_all (length ps) ps (omega arith) j) in
    pushed_lists s s' side it (r ∙ ap (λ d. joined_rows d ps p) (sym e))

-- ---- the key at a rank

pub key_records : (s : Flat) (rs : List Record) (rank i n : ℕ) (out out' : List ℕ) → rs ≡ take s.used s.records.now → AtRank (rows rs) rank (Some i) → n ≤ longest_key → n ≡ length (key_of (get_or rs i blank)) → out' ≡ over out (key_of (get_or rs i blank)) → Copied longest_key (keys_of (lists_in s)) rank out out' (Some n)
key_records s rs rank i n out out' e w f h g =
    let k : key_of (get_or rs i blank) ≡ get_or (keys_of (lists_of (rows rs))) rank [] = same_name rs i ∙ w.2 in
    subst (λ (xs : List Record). Copied longest_key (keys_of (lists_of (rows xs))) rank out out' (Some n)) e (w.1, f, h ∙ ap length k, g ∙ ap (over out) k)

-- ---- room

pub room_more : (s : Flat) (held room : ℕ) → held ≡ elements (lists_in s) → room ≡ room_of s → (held ≡ room → ⊥) → elements (lists_in s) < room_of s
room_more s held room h r n = omega (arith, (flat_laws s).fits, h, r, n)

-- ---- at an index

-- where an element of the lists stands among the rows
pub in_rows : (s : Flat) (k : Key) (i : ℕ) → i < length (at (lists_of (rows_in s)) k) → i < length (values_of k (rows_in s))
in_rows s k i l = omega (arith, len_is s k)

pub in_table : (s : Flat) (k : Key) (i n : ℕ) → n ≡ spot k i (rows_in s) → i < length (at (lists_of (rows_in s)) k) → n < s.used
in_table s k i n e l = omega (arith, rows_long s, (spot_row k i (rows_in s) (in_rows s k i l) (k, [])).0)

pub within_table : (s : Flat) (k : Key) (i n : ℕ) → n ≡ spot k i (rows_in s) → n ≤ s.used
within_table s k i n e = omega (arith, rows_long s, spot_few k i (rows_in s))

pub set_lists : (s s' : Flat) (i : ℕ) (it : Record) → i < length (at (lists_in s) (key_of it)) → rows_in s' ≡ set (rows_in s) (spot (key_of it) i (rows_in s)) (row it) → lists_in s' ≡ put (lists_in s) (key_of it) (set (at (lists_in s) (key_of it)) i (value_of it))
set_lists s s' i it l h = ap lists_of h ∙ rows_set (key_of it) i (rows_in s) (value_of it) (in_rows s (key_of it) i l)

pub inserted_lists : (s s' : Flat) (i : ℕ) (it : Record) → i ≤ length (at (lists_in s) (key_of it)) → rows_in s' ≡ insert (rows_in s) (spot (key_of it) i (rows_in s)) (row it) → lists_in s' ≡ put (lists_in s) (key_of it) (insert (at (lists_in s) (key_of it)) i (value_of it))
inserted_lists s s' i it l h = ap lists_of h ∙ rows_inserted (key_of it) i (rows_in s) (value_of it) (omega (arith, l, len_is s (key_of it)))

pub removed_lists : (s s' : Flat) (k : Key) (i : ℕ) → i < length (at (lists_in s) k) → rows_in s' ≡ remove (rows_in s) (spot k i (rows_in s)) → lists_in s' ≡ put (lists_in s) k (remove (at (lists_in s) k) i)
removed_lists s s' k i l h = ap lists_of h ∙ rows_removed k i (rows_in s) (in_rows s k i l)

-- ---- what `get` tells of a record

pub told_there : {X : Type 0} (r : Option X) (n l i m : ℕ) → is_some r ≡ ltb n l → (n < l → i < m) × (i < m → n < l) → (IsSome r → i < m) × (i < m → IsSome r)
told_there r n l i m e h = ((λ t. h.0 ((Decides-ltb n l).0 (sym e ∙ t))), λ k. e ∙ (Decides-ltb n l).1 (h.1 k))

pub told_value : (P : Record → Type 0) (rs : List Record) (n : ℕ) (r : Option (Bor Record)) → is_some r ≡ ltb n (length rs) → IfSome r (λ x. x.now ≡ get_or rs n x.now) → (n < length rs → (it : Record) → it ≡ get_or rs n it → P it) → IfSome r (λ x. P x.now)
told_value P rs n None e h f = tt
told_value P rs n (Some x) e h f = f ((Decides-ltb n (length rs)).0 (sym e)) x.now h
