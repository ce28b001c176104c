-- What holds of the lists of every quicklist store.
use Rattle.std.specs.Prelude.{◌≡◌, ℕ, zero, suc, ◌-◌, ◌<◌, ◌≤◌, List, [], ◌∷◌, map, length, slice_index_or, refl}
use Rattle.std.proofs.Common.{sym, ap, ◌∙◌, arith, length-take, length-append}
use Rattle.std.specs.List.{AllByRecursion}
use Rattle.std.proofs.lemmas.List.{get_or-map, length-map}
use Rattle.std.proofs.ByRecursion.{All-append, All-from_get_or}
use Rattle.order.specs.Keys.{Key, key_in, longest_key}
use Rattle.store.specs.Limits.{longest_value}
use Rattle.store.specs.Lists.{Lists, StoreLaws}
use Rattle.store.specs.Rows.{Row}
use Rattle.store.proofs.RowLaws.{rows_laws}
use Rattle.listpack.specs.Packs.{values_in}
use Rattle.listpack.proofs.PackLaws.{held_short}
use Rattle.nodes.specs.Nodes.{Nodes, flat}
use Rattle.nodes.specs.Books.{Book, record_at, rows_in_book}
use Rattle.nodes.proofs.BookLaws.{rows_short}
use Rattle.links.specs.Links.{chain, sum}
use Rattle.links.proofs.Sums.{sum_same, sum_first}
use Rattle.records.specs.declared.record.ListRecord.{ListRecord}
use Rattle.quicklist.specs.declared.table.Node.{Node}
use Rattle.quicklist.specs.declared.table.Tables.{Tables}
use Rattle.quicklist.specs.declared.keyed.Quicklist.{Quicklist}
use Rattle.quicklist.specs.Tables.{values_at, room, links_of, nodes_of, book_of, Sized, Totalled}
use Rattle.quicklist.specs.Store.{lists_of, nodes_in}

-- a store's capacity, its lists, and the nodes of the list of a key
abbrev pub room_of : Quicklist → ℕ
room_of q = room q.tables

abbrev pub lists_in : Quicklist → Lists
lists_in q = lists_of q.tables

abbrev pub nodes_for : Quicklist → Key → Nodes
nodes_for q k = nodes_in q.tables k

-- ---- keys and values are short

values_short : (xs : List Node) (k : ℕ) → AllByRecursion (λ v. length v ≤ longest_value) (slice_index_or (map (λ (x : Node). values_in x.pack) xs) k [])
values_short [] k = tt
values_short (x ∷ xs) zero = All-from_get_or (λ v. length v ≤ longest_value) (values_in x.pack) [] (λ i l. held_short x.pack i)
values_short (x ∷ xs) (suc k) = values_short xs k

flat_short : (xs : List Node) (ns : List ℕ) → AllByRecursion (λ v. length v ≤ longest_value) (flat (map (values_at xs) ns))
flat_short xs [] = tt
flat_short xs (n ∷ ns) = All-append (λ v. length v ≤ longest_value) (values_at xs n) (flat (map (values_at xs) ns)) (values_short xs (n - 1)) (flat_short xs ns)

records_short : (t : Tables) (rs : List ListRecord) → AllByRecursion (λ (r : Key × Nodes). (length r.0 ≤ longest_key) × AllByRecursion (λ v. length v ≤ longest_value) (flat r.1)) (map (λ (r : ListRecord). (key_in r.name, map (values_at t.nodes.now) (chain (links_of t).next (room t) r.first))) rs)
records_short t [] = tt
records_short t (r ∷ rs) = ((simp length-take (omega arith), flat_short t.nodes.now (chain (links_of t).next (room t) r.first)), records_short t rs)

-- ---- as many elements as are counted

rows_count : (b : Book) → length (rows_in_book b) ≡ sum (λ i. length (flat (record_at b i).1)) (length b)
unfolding rows_in_book sum
rows_count [] = refl
rows_count (r ∷ b) =
    let own : List Row = map (λ v. (r.0, v)) (flat r.1) in
    let each : length own ≡ length (flat r.1) = length-map (flat r.1) (λ v. (r.0, v)) in
    length-append own (rows_in_book b)
    ∙ omega (arith, each, rows_count b, sum_first (λ i. length (flat (record_at (r ∷ b) i).1)) (length b))

record_nodes : (t : Tables) (i : ℕ) → i < length t.lists.now → (record_at (book_of t) i).1 ≡ nodes_of t i
record_nodes t i l =
    let d : ListRecord = record { name = record { len = 0; bytes = [] }; first = 0; last = 0; count = 0; next = 0 } in
    ap (λ (p : Key × Nodes). p.1) (get_or-map (λ (r : ListRecord). (key_in r.name, map (values_at t.nodes.now) (chain (links_of t).next (room t) r.first))) t.lists.now i d ([], []) l)
    ∙ ap (λ n. map (values_at t.nodes.now) (chain (links_of t).next (room t) n)) (sym (get_or-map (λ (r : ListRecord). r.first) t.lists.now i d 0 l))

pub rows_held : (t : Tables) → Sized t → Totalled t → length (rows_in_book (book_of t)) ≡ t.held
rows_held t sized totalled =
    let long : length (book_of t) ≡ room t = length-map t.lists.now _ ∙ sized.0 in
    rows_count (book_of t) ∙ ap (sum (λ i. length (flat (record_at (book_of t) i).1))) long
    ∙ sum_same (λ e. length (flat (nodes_of t e))) (λ i. length (flat (record_at (book_of t) i).1)) (room t) (λ i l. ap (λ ms. length (flat ms)) (record_nodes t i (omega (arith, sized.0))))
    ∙ sym totalled

pub quicklist_laws : (q : Quicklist) → StoreLaws (room_of q) (lists_in q)
quicklist_laws q =
    rows_laws (room_of q) (rows_in_book (book_of q.tables)) q.whole.sized.1 q.whole.sized.2 (omega (arith, rows_held q.tables q.whole.sized q.whole.totalled, q.whole.within))
    (rows_short (book_of q.tables) (records_short q.tables q.tables.lists.now))
