-- What the records of a table of lists show, in the table's order: each has a key and the nodes of its list. A record that is not in use has no nodes.
use Rattle.std.specs.Prelude.{◌≡◌, ℕ, ◌+◌, ◌<◌, ◌≤◌, cond, List, [], ◌∷◌, ◌++◌, map, length, count_by, ◌≢◌, nat_lt, slice_index_or, slice_set}
use Rattle.std.specs.Ordering.{is_eq}
use Rattle.std.specs.List.{AllByRecursion}
use Rattle.order.specs.Keys.{Key, key_order}
use Rattle.store.specs.Lists.{Lists, at, put, held}
use Rattle.store.specs.Rows.{Row, lists_of}
use Rattle.nodes.specs.Nodes.{Nodes, flat, Filled}

abbrev pub Book : Type 0
Book = List (Key × Nodes)

-- the nodes of the records with a key, one after another
unfoldable pub nodes_at : Key → Book → Nodes
nodes_at k [] = []
nodes_at k (r ∷ b) = cond (is_eq (key_order k r.0)) (r.1 ++ nodes_at k b) (nodes_at k b)

-- each value of each record's nodes as a row
unfoldable pub rows_in_book : Book → List Row
rows_in_book [] = []
rows_in_book (r ∷ b) = map (λ v. (r.0, v)) (flat r.1) ++ rows_in_book b

-- the lists that the records show
abbrev pub book_lists : Book → Lists
book_lists b = lists_of (rows_in_book b)

-- the nodes of all records, one after another
unfoldable pub all_nodes : Book → Nodes
all_nodes [] = []
all_nodes (r ∷ b) = r.1 ++ all_nodes b

-- how many records have nodes
abbrev pub in_use : Book → ℕ
in_use b = count_by (λ r. nat_lt 0 (length r.1)) b

abbrev pub record_at : Book → ℕ → Key × Nodes
record_at b i = slice_index_or b i ([], [])

-- no record with nodes has the key k
abbrev pub Absent : Key → Book → Type 0
Absent k b = (i : ℕ) → i < length b → 0 < length (record_at b i).1 → (record_at b i).0 ≢ k

-- but for the one at e, no record with nodes has the key k
abbrev pub Alone : Key → ℕ → Book → Type 0
Alone k e b = (i : ℕ) → i < length b → (i ≢ e) → 0 < length (record_at b i).1 → (record_at b i).0 ≢ k

-- records with nodes have different keys
abbrev pub Apart : Book → Type 0
Apart b = (e : ℕ) → e < length b → 0 < length (record_at b e).1 → Alone (record_at b e).0 e b

-- what can be relied on of records without a look at the definitions
pub record BookLaws : Type 0 where
  -- a key's list is what its nodes hold, and each value is an element
  pub shows : (b : Book) (k : Key) → at (book_lists b) k ≡ flat (nodes_at k b)
  pub counts : (b : Book) → held (book_lists b) ≡ length (flat (all_nodes b))
  -- a key's nodes are those of its record, and none where it has no record
  pub finds : (b : Book) (e : ℕ) (k : Key) → e < length b → (record_at b e).0 ≡ k → Alone k e b → nodes_at k b ≡ (record_at b e).1
  pub misses : (b : Book) (k : Key) → Absent k b → nodes_at k b ≡ []
  -- a record that is written over changes the list of its key alone, and keys stay apart
  pub puts : (b : Book) (e : ℕ) (k : Key) (ns : Nodes) → e < length b → Alone k e b → (0 < length (record_at b e).1 → (record_at b e).0 ≡ k) → book_lists (slice_set b e (k, ns)) ≡ put (book_lists b) k (flat ns)
  pub keeps : (b : Book) (e : ℕ) (k : Key) (ns : Nodes) → Apart b → Alone k e b → e < length b → Apart (slice_set b e (k, ns))
  -- how many values and nodes that leaves in all
  pub values : (b : Book) (e : ℕ) (k : Key) (ns : Nodes) → e < length b → length (flat (all_nodes (slice_set b e (k, ns)))) + length (flat (record_at b e).1) ≡ length (flat (all_nodes b)) + length (flat ns)
  pub nodes : (b : Book) (e : ℕ) (k : Key) (ns : Nodes) → e < length b → length (all_nodes (slice_set b e (k, ns))) + length (record_at b e).1 ≡ length (all_nodes b) + length ns
  -- no more records are in use than there are nodes, and no more nodes than values
  pub few_used : (b : Book) → in_use b ≤ length (all_nodes b)
  pub few : (b : Book) → AllByRecursion (λ r. Filled r.1) b → length (all_nodes b) ≤ length (flat (all_nodes b))
