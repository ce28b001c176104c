-- Entries in the place of others.
use Rattle.std.proofs.Common.{◌≡◌, ℕ, zero, suc, ◌+◌, ◌-◌, ◌*◌, ◌≤◌, List, [], ◌∷◌, ◌++◌, length, take, drop, sym, refl, ap, ◌∙◌, subst, append_assoc, arith}
use Rattle.std.proofs.lemmas.List.{append-nil, length-append, length-drop, length-take-le, take-append-drop, take_at}
use Rattle.store.specs.Limits.{longest_value}
use Rattle.store.specs.Lists.{Value}
use Rattle.entry.specs.Entry.{entry}
use Rattle.listpack.specs.Layout.{most_bytes, entries, total, header, pack, read, Shorts}
use Rattle.listpack.specs.Places.{place, spliced, Run, exchanged}
use Rattle.listpack.proofs.Sizes.{entries_append, entries_one, total_append, total_none, total_split, entries_long}
use Rattle.listpack.proofs.Contents.{Holds, read_entries}
use Rattle.listpack.proofs.Spots.{length_pack, take_pack, drop_pack, place_order, place_below}

-- ---- values that are short enough

shorts_append : (us vs : List Value) → Shorts us → Shorts vs → Shorts (us ++ vs)
shorts_append [] vs a b k = b k
shorts_append (u ∷ us) vs a b zero = a zero
shorts_append (u ∷ us) vs a b (suc k) = shorts_append us vs (λ j. a (suc j)) b k

shorts_take : (n : ℕ) (vs : List Value) → Shorts vs → Shorts (take n vs)
shorts_take zero vs h k = omega arith
shorts_take (suc n) [] h k = omega arith
shorts_take (suc n) (v ∷ vs) h zero = h zero
shorts_take (suc n) (v ∷ vs) h (suc k) = shorts_take n vs (λ j. h (suc j)) k

pub shorts_drop : (n : ℕ) (vs : List Value) → Shorts vs → Shorts (drop n vs)
shorts_drop zero vs h k = h k
shorts_drop (suc n) [] h k = omega arith
shorts_drop (suc n) (v ∷ vs) h k = shorts_drop n vs (λ j. h (suc j)) k

pub shorts_one : (v : Value) → length v ≤ longest_value → Shorts (v ∷ [])
shorts_one v h zero = h
shorts_one v h (suc k) = omega arith

pub length_read : (n : ℕ) (bytes : List ℕ) → length (read n bytes) ≡ n
unfolding read
length_read zero bytes = refl
length_read (suc n) bytes = ap suc (length_read n _)

-- a run of entries has two bytes for each at least
pub run_few : (n : ℕ) (bytes : List ℕ) → Run n bytes → 2 * n ≤ length bytes
run_few n bytes r = omega (arith, entries_long (read n bytes) r.short, length_read n bytes, ap length r.whole)

-- bytes that are the entries of n values
module _ (ns : List Value) (n : ℕ) (bytes : List ℕ) (short : Shorts ns) (l : n ≡ length ns) (e : bytes ≡ entries ns) where
  pub read_run : read n bytes ≡ ns
  read_run = (λ k. read (l k) ((e ∙ sym (append-nil (entries ns))) k)) ∙ read_entries ns [] short

  pub run_of : Run n bytes
  run_of = record { whole = ap entries read_run ∙ sym e; short = subst Shorts (sym read_run) short }

-- the entry of a value at the beginning of what it was written to
pub cut_entry : (v : Value) (n : ℕ) (out rest : List ℕ) → n ≡ length (entry v) → out ≡ entry v ++ rest → take n out ≡ entries (v ∷ [])
cut_entry v n out rest e o = ap (take n) o ∙ take_at (entry v) rest n (sym e) ∙ sym (entries_one v)

-- ---- the exchange

module _ (vs : List Value) (i j : ℕ) (order : i ≤ j) where
  module _ (ns : List Value) where
    total_exchanged : total (exchanged vs i j ns) ≡ total vs - (place vs j - place vs i) + length (entries ns)
    total_exchanged = omega (arith, place_order vs i j order, total_append (take i vs) (ns ++ drop j vs), total_append ns (drop j vs), total_split j vs)

    pub length_exchanged : j ≤ length vs → length (exchanged vs i j ns) ≡ length vs - (j - i) + length ns
    length_exchanged l = omega (arith, length-append (take i vs) (ns ++ drop j vs), length-append ns (drop j vs), length-drop j vs, length-take-le i vs (omega arith))

    pub shorts_exchanged : Shorts vs → Shorts ns → Shorts (exchanged vs i j ns)
    shorts_exchanged s n = shorts_append (take i vs) (ns ++ drop j vs) (shorts_take i vs s) (shorts_append ns (drop j vs) n (shorts_drop j vs s))

    entries_exchanged : entries (exchanged vs i j ns) ≡ entries (take i vs) ++ (entries ns ++ entries (drop j vs))
    entries_exchanged = entries_append (take i vs) (ns ++ drop j vs) ∙ ap (λ bs. entries (take i vs) ++ bs) (entries_append ns (drop j vs))

    -- what stands behind the header after a splice
    behind : (bytes bytes' new : List ℕ) → Holds bytes vs → entries ns ≡ new
        → take (total (exchanged vs i j ns)) bytes' ≡ spliced (take (total vs) bytes) (place vs i) (place vs j) new
        → drop 6 bytes' ≡ (entries (exchanged vs i j ns) ++ 255 ∷ []) ++ drop (total (exchanged vs i j ns)) bytes'
    behind bytes bytes' new h n e =
        let ws = exchanged vs i j ns in
        let r = drop (total ws) bytes' in
        let es = entries (drop j vs) ++ 255 ∷ [] in
        let f : spliced (take (total vs) bytes) (place vs i) (place vs j) new ≡ (header (total vs) (length vs) ++ entries (take i vs)) ++ (entries ns ++ es) =
        ap (λ bs. spliced bs (place vs i) (place vs j) new) h.begins ∙ (λ k. take_pack vs i k ++ (sym n k ++ drop_pack vs j k)) in
        let g : entries (take i vs) ++ (entries ns ++ es) ≡ entries ws ++ 255 ∷ [] =
        ap (λ bs. entries (take i vs) ++ bs) (sym (append_assoc (entries ns) (entries (drop j vs)) (255 ∷ []))) ∙ sym (append_assoc (entries (take i vs)) (entries ns ++ entries (drop j vs)) (255 ∷ [])) ∙ ap (λ bs. bs ++ 255 ∷ []) (sym entries_exchanged) in
        ap (drop 6) (sym (take-append-drop (total ws) bytes') ∙ ap (λ bs. bs ++ r) (e ∙ f)) ∙ ap (λ bs. bs ++ r) g

    exchanged_holds : (bytes bytes' out new : List ℕ) → Holds bytes vs → Shorts ns → total (exchanged vs i j ns) ≤ most_bytes → entries ns ≡ new
        → take (total (exchanged vs i j ns)) bytes' ≡ spliced (take (total vs) bytes) (place vs i) (place vs j) new
        → out ≡ header (total (exchanged vs i j ns)) (length (exchanged vs i j ns)) ++ drop 6 bytes'
        → Holds out (exchanged vs i j ns)
    unfolding pack
    exchanged_holds bytes bytes' out new h s t n e o =
        let ws = exchanged vs i j ns in
        let p : out ≡ pack ws ++ drop (total ws) bytes' = o ∙ ap (λ bs. header (total ws) (length ws) ++ bs) (behind bytes bytes' new h n e) in
        record { begins = ap (take (total ws)) p ∙ take_at (pack ws) (drop (total ws) bytes') (total ws) (length_pack ws); fits = t; short = shorts_exchanged h.short s }

    -- the same with the numbers that the code has found
    module _ (new : List ℕ) (from to end : ℕ) (n : entries ns ≡ new) (a : from ≡ place vs i) (b : to ≡ place vs j) (c : end ≡ total vs) where
      pub grown_is : end - (to - from) + length new ≡ total (exchanged vs i j ns)
      grown_is = omega (arith, total_exchanged, ap length n)

      pub written_holds : (bytes bytes' out : List ℕ) (count : ℕ) → Holds bytes vs → Shorts ns → end - (to - from) + length new ≤ most_bytes → count ≡ length (exchanged vs i j ns)
          → take (from + length new + (end - to)) bytes' ≡ spliced (take end bytes) from to new → out ≡ header (end - (to - from) + length new) count ++ drop 6 bytes'
          → Holds out (exchanged vs i j ns)
      written_holds bytes bytes' out count h s t m e o =
          let k : total (exchanged vs i j ns) ≡ from + length new + (end - to) = omega (arith, grown_is, place_order vs i j order, place_below vs j) in
          exchanged_holds bytes bytes' out new h s (omega (arith, grown_is)) n
          (ap (λ x. take x bytes') k ∙ e ∙ (λ x. spliced (take (c x) bytes) (a x) (b x) new))
          (o ∙ (λ x. header (grown_is x) (m x) ++ drop 6 bytes'))

  pub total_out : total (exchanged vs i j []) ≤ total vs
  total_out = omega (arith, total_exchanged [], total_none)
