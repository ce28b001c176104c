-- Where entries stand among the bytes of a listpack.
use Rattle.std.proofs.Common.{◌≡◌, ℕ, ◌+◌, ◌-◌, ◌<◌, ◌≤◌, List, [], ◌∷◌, ◌++◌, length, get_or, take, drop, Some, Option, sym, ap, ◌∙◌, append_assoc, arith}
use Rattle.std.proofs.lemmas.List.{length-append, take_rest, take-append-drop, take_at, take-take, drop_at, take_more, drop_more}
use Rattle.store.specs.Lists.{Value}
use Rattle.entry.specs.Entry.{entry, span_in}
use Rattle.listpack.specs.Layout.{most_bytes, entries, total, header, pack}
use Rattle.listpack.specs.Places.{place}
use Rattle.listpack.proofs.Codec.{span_first}
use Rattle.listpack.proofs.Sizes.{entries_append, entries_more, entries_one, total_split}
use Rattle.listpack.proofs.Contents.{Holds}

pub length_pack : (vs : List Value) → length (pack vs) ≡ total vs
unfolding pack
length_pack vs = omega (arith, length-append (entries vs) (255 ∷ []))

pub place_order : (vs : List Value) (i j : ℕ) → i ≤ j → place vs i ≤ place vs j
place_order vs i j h = omega (arith, total_split i (take j vs), ap total (take-take i j vs h))

module _ (vs : List Value) (i : ℕ) where
  -- a listpack up to an entry, and from there on
  front : List ℕ
  front = header (total vs) (length vs) ++ entries (take i vs)

  back : List ℕ
  back = entries (drop i vs) ++ 255 ∷ []

  length_front : length front ≡ place vs i
  unfolding front
  length_front = omega arith

  pack_split : pack vs ≡ front ++ back
  unfolding pack front back
  pack_split =
      ap (λ vs'. header (total vs) (length vs) ++ (entries vs' ++ 255 ∷ [])) (sym (take-append-drop i vs))
      ∙ ap (λ bs. header (total vs) (length vs) ++ (bs ++ 255 ∷ [])) (entries_append (take i vs) (drop i vs))
      ∙ ap (λ bs. header (total vs) (length vs) ++ bs) (append_assoc (entries (take i vs)) (entries (drop i vs)) (255 ∷ []))

  pub take_pack : take (place vs i) (pack vs) ≡ header (total vs) (length vs) ++ entries (take i vs)
  unfolding front
  take_pack = ap (take (place vs i)) pack_split ∙ take_at front back (place vs i) length_front

  pub drop_pack : drop (place vs i) (pack vs) ≡ entries (drop i vs) ++ 255 ∷ []
  unfolding back
  drop_pack = ap (drop (place vs i)) pack_split ∙ drop_at front back (place vs i) length_front

  pub place_below : place vs i < total vs
  place_below = omega (arith, total_split i vs)

  pub place_more : i < length vs → place vs (i + 1) ≡ place vs i + length (entry (get_or vs i []))
  place_more h =
      let e = ap entries (take_more vs i [] h) ∙ entries_append (take i vs) (get_or vs i [] ∷ []) in
      omega (arith, ap length e, length-append (entries (take i vs)) (entries (get_or vs i [] ∷ [])), ap length (entries_one (get_or vs i [])))

  -- what stands behind the place of an entry
  pub drop_place : (bytes : List ℕ) → Holds bytes vs → drop (place vs i) bytes ≡ entries (drop i vs) ++ 255 ∷ drop (total vs) bytes
  unfolding back
  drop_place bytes h =
      let r = drop (total vs) bytes in
      let e : bytes ≡ front ++ (back ++ r) = sym (take-append-drop (total vs) bytes) ∙ ap (λ bs. bs ++ r) (h.begins ∙ pack_split) ∙ append_assoc front back r in
      ap (drop (place vs i)) e ∙ drop_at front (back ++ r) (place vs i) length_front ∙ append_assoc (entries (drop i vs)) (255 ∷ []) r

  pub entry_there : (bytes : List ℕ) → Holds bytes vs → i < length vs → drop (place vs i) bytes ≡ entry (get_or vs i []) ++ (entries (drop (i + 1) vs) ++ 255 ∷ drop (total vs) bytes)
  entry_there bytes h l =
      drop_place bytes h ∙ ap (λ ws. entries ws ++ 255 ∷ drop (total vs) bytes) (drop_more vs i [] l)
      ∙ ap (λ bs. bs ++ 255 ∷ drop (total vs) bytes) (entries_more (get_or vs i []) (drop (i + 1) vs))
      ∙ append_assoc (entry (get_or vs i [])) (entries (drop (i + 1) vs)) (255 ∷ drop (total vs) bytes)

  pub span_there : (bytes : List ℕ) → Holds bytes vs → i < length vs → span_in (drop (place vs i) bytes) ≡ Some (length (entry (get_or vs i [])))
  span_there bytes h l = ap span_in (entry_there bytes h l) ∙ span_first (get_or vs i []) (h.short i) (entries (drop (i + 1) vs) ++ 255 ∷ drop (total vs) bytes)

  -- the bytes from the place of an entry on, as a slice of the array has them
  pub rest_there : (bytes : List ℕ) (spot : ℕ) → length bytes ≡ most_bytes → spot ≡ place vs i → take (most_bytes - spot) (drop spot bytes) ≡ drop (place vs i) bytes
  rest_there bytes spot l e = ap (λ n. take (n - spot) (drop spot bytes)) (sym l) ∙ take_rest bytes spot ∙ ap (λ n. drop n bytes) e

  pub span_read : (bytes : List ℕ) (spot : ℕ) (r : Option ℕ) → Holds bytes vs → length bytes ≡ most_bytes → spot ≡ place vs i → i < length vs
      → r ≡ span_in (take (most_bytes - spot) (drop spot bytes)) → r ≡ Some (length (entry (get_or vs i [])))
  span_read bytes spot r h l e b q = q ∙ ap span_in (rest_there bytes spot l e) ∙ span_there bytes h b

  pub next_there : (bytes : List ℕ) (spot n : ℕ) (r : Option ℕ) → Holds bytes vs → length bytes ≡ most_bytes → spot ≡ place vs i → i < length vs
      → r ≡ span_in (take (most_bytes - spot) (drop spot bytes)) → r ≡ Some n → spot + n ≡ place vs (i + 1)
  next_there bytes spot n r h l e b q k =
      let s = span_read bytes spot r h l e b q in
      let m : n ≡ length (entry (get_or vs i [])) = cc in
      omega (arith, place_more b)

  -- the entries from an index on
  pub back_there : (bytes : List ℕ) (from end : ℕ) → Holds bytes vs → from ≡ place vs i → end + 1 ≡ total vs → take (end - from) (drop from bytes) ≡ entries (drop i vs)
  back_there bytes from end h a b =
      let k : length (entries (drop i vs)) ≡ end - from = omega (arith, total_split i vs) in
      ap (λ n. take (end - from) (drop n bytes)) a ∙ ap (take (end - from)) (drop_place bytes h) ∙ take_at (entries (drop i vs)) (255 ∷ drop (total vs) bytes) (end - from) k
