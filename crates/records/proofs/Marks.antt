-- A book and the records of its lists have the same keys by rank.
use Rattle.std.proofs.Common.{◌≡◌, ℕ, zero, suc, ◌<◌, Bool, true, false, cond, List, [], ◌∷◌, ◌++◌, map, length, sym, refl, ap, ◌∙◌, arith}
use Rattle.std.specs.Ordering.{is_eq}
use Rattle.order.specs.Keys.{Key, key_order}
use Rattle.store.specs.Lists.{Value, Lists, at, keys_of, Above, Canonical}
use Rattle.store.specs.Rows.{Row, values_of}
use Rattle.store.proofs.ListLaws.{same_lists}
use Rattle.store.proofs.RowLaws.{canonical_rows, at_rows}
use Rattle.nodes.specs.Nodes.{Nodes, flat}
use Rattle.nodes.specs.Books.{Book, nodes_at, rows_in_book, book_lists, record_at}
use Rattle.nodes.proofs.NodeLaws.{flat_append}
use Rattle.nodes.proofs.BookLaws.{shown}
use Rattle.records.specs.declared.record.ListRecord.{ListRecord}
use Rattle.records.specs.Records.{key_at, first_at, mark, marks, marked}

-- ---- canonical lists have the same keys where the same keys have an element

-- one element in place of all of a list
one : List Value → List Value
one [] = []
one (v ∷ vs) = [] ∷ []

ones : Lists → Lists
ones es = map (λ e. (e.0, [] ∷ [])) es

one_filled : (vs : List Value) → 0 < length vs → one vs ≡ [] ∷ []
unfolding one
one_filled [] h = absurd (omega arith)
one_filled (v ∷ vs) h = refl

keys_ones : (es : Lists) → keys_of (ones es) ≡ keys_of es
unfolding ones
keys_ones [] = refl
keys_ones (e ∷ es) = ap (λ ks. e.0 ∷ ks) (keys_ones es)

above_ones : (k : Key) (es : Lists) → Above k es → Above k (ones es)
unfolding Above ones
above_ones k [] a = tt
above_ones k (e ∷ es) a = (a.0, above_ones k es a.1)

canonical_ones : (es : Lists) → Canonical es → Canonical (ones es)
unfolding Canonical ones
canonical_ones [] c = tt
canonical_ones (e ∷ es) c = (omega arith, above_ones e.0 es c.1, canonical_ones es c.2)

at_ones : (es : Lists) (q : Key) → Canonical es → at (ones es) q ≡ one (at es q)
unfolding Canonical ones one at
at_ones [] q c = refl
at_ones (e ∷ es) q c = go (at_ones es q c.2) (is_eq (key_order q e.0))
  where
    go : at (ones es) q ≡ one (at es q) → (b : Bool) → cond b ([] ∷ []) (at (ones es) q) ≡ one (cond b e.1 (at es q))
    go ih true = sym (one_filled e.1 c.0)
    go ih false = ih

same_keys : (ds es : Lists) → Canonical ds → Canonical es → ((q : Key) → one (at ds q) ≡ one (at es q)) → keys_of ds ≡ keys_of es
same_keys ds es c b h =
    sym (keys_ones ds) ∙ ap keys_of (same_lists (ones ds) (ones es) (canonical_ones ds c) (canonical_ones es b) (λ q. at_ones ds q c ∙ h q ∙ sym (at_ones es q b))) ∙ keys_ones es

-- ---- the keys of a book, and those of its records

-- one record more, in use or not
one_mark : (n : ℕ) (t : Bool) (ns ms : Nodes) (ps : List Row) (q k : Key) → is_eq (key_order q k) ≡ t → (n ≡ 0 → length (flat ns) ≡ 0) × ((n ≡ 0 → ⊥) → 0 < length (flat ns)) → one (flat ms) ≡ one (values_of q ps) → one (flat (cond t (ns ++ ms) ms)) ≡ one (values_of q (mark n k ps))
unfolding one values_of
one_mark zero true ns ms ps q k e h ih = ap one (flat_append ns ms) ∙ none (flat ns) (h.0 refl) ∙ ih
  where
    none : (vs : List Value) → length vs ≡ 0 → one (vs ++ flat ms) ≡ one (flat ms)
    none [] l = refl
    none (v ∷ vs) l = absurd (omega arith)
one_mark zero false ns ms ps q k e h ih = ih
one_mark (suc n) true ns ms ps q k e h ih = ap one (flat_append ns ms) ∙ some (flat ns) (h.1 (λ z. omega arith)) ∙ sym (ap (λ b. one (cond b ([] ∷ values_of q ps) (values_of q ps))) e)
  where
    some : (vs : List Value) → 0 < length vs → one (vs ++ flat ms) ≡ one ([] ∷ values_of q ps)
    some [] l = absurd (omega arith)
    some (v ∷ vs) l = refl
one_mark (suc n) false ns ms ps q k e h ih = ih ∙ sym (ap (λ b. one (cond b ([] ∷ values_of q ps) (values_of q ps))) e)

one_book : (q : Key) (b : Book) (rs : List ListRecord) → length b ≡ length rs → ((i : ℕ) → i < length rs → (record_at b i).0 ≡ key_at rs i) → ((i : ℕ) → i < length rs → (first_at rs i ≡ 0 → length (flat (record_at b i).1) ≡ 0) × ((first_at rs i ≡ 0 → ⊥) → 0 < length (flat (record_at b i).1))) → one (flat (nodes_at q b)) ≡ one (values_of q (marks rs))
unfolding nodes_at marks values_of
one_book q [] [] l k f = refl
one_book q [] (r ∷ rs) l k f = absurd (omega arith)
one_book q (p ∷ b) [] l k f = absurd (omega arith)
one_book q (p ∷ b) (r ∷ rs) l k f =
    ap (λ x. one (flat (cond (is_eq (key_order q x)) (p.1 ++ nodes_at q b) (nodes_at q b)))) (k 0 (omega arith)) ∙
    one_mark r.first (is_eq (key_order q (key_at (r ∷ rs) 0))) p.1 (nodes_at q b) (marks rs) q (key_at (r ∷ rs) 0) refl (f 0 (omega arith)) (one_book q b rs (omega arith) (λ i m. k (suc i) (omega arith)) (λ i m. f (suc i) (omega arith)))

pub marked_keys : (b : Book) (rs : List ListRecord) → length b ≡ length rs → ((i : ℕ) → i < length rs → (record_at b i).0 ≡ key_at rs i) → ((i : ℕ) → i < length rs → (first_at rs i ≡ 0 → length (flat (record_at b i).1) ≡ 0) × ((first_at rs i ≡ 0 → ⊥) → 0 < length (flat (record_at b i).1))) → keys_of (book_lists b) ≡ keys_of (marked rs)
marked_keys b rs l k f = same_keys (book_lists b) (marked rs) (canonical_rows (rows_in_book b)) (canonical_rows (marks rs)) (λ q. ap one (shown b q) ∙ one_book q b rs l k f ∙ ap one (sym (at_rows q (marks rs))))
