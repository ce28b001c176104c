-- What a change makes of the lists of a quicklist.
use Rattle.std.proofs.Common.{◌≡◌, ℕ, ◌<◌, ◌≤◌, List, [], ◌∷◌, length, sym, refl, ap, ◌∙◌, arith}
use Rattle.order.specs.Keys.{Key}
use Rattle.store.specs.Lists.{Value, at, put}
use Rattle.store.specs.Lists.{held as elements}
use Rattle.store.specs.Rows.{Row}
use Rattle.store.specs.Rows.{lists_of as rows_lists}
use Rattle.store.proofs.RowLaws.{held_rows}
use Rattle.nodes.specs.Nodes.{Nodes, flat}
use Rattle.nodes.specs.Books.{rows_in_book}
use Rattle.nodes.proofs.BookLaws.{shown}
use Rattle.quicklist.specs.declared.table.Tables.{Tables}
use Rattle.quicklist.specs.declared.keyed.Quicklist.{Quicklist}
use Rattle.quicklist.specs.Tables.{room, book_of, Whole}
use Rattle.quicklist.specs.Laws.{rows_held, room_of, lists_in, quicklist_laws}
use Rattle.quicklist.specs.Store.{lists_of, nodes_in, Changed}
use Rattle.quicklist.specs.Changes.{Recut}

-- what a change of one list leaves of the store, where the nodes hold what they should
pub entered : (t t' : Tables) (k : Key) (ns : Nodes) (vs : List Value) → Changed t t' k ns → flat ns ≡ vs
    → record { kept : room t' ≡ room t; lists : lists_of t' ≡ put (lists_of t) k vs; nodes : Recut (nodes_in t) (nodes_in t') k ns }
entered t t' k ns vs c e = record { kept = c.kept; lists = c.lists ∙ ap (put (lists_of t) k) e; nodes = (c.nodes, c.others) }

pub list_is : (t : Tables) (k : Key) → flat (nodes_in t k) ≡ at (lists_of t) k
list_is t k = sym (shown (book_of t) k)

no_rows : (ps : List Row) → length ps ≡ 0 → rows_lists ps ≡ []
unfolding rows_lists
no_rows [] e = refl
no_rows (p ∷ ps) e = absurd (omega arith)

pub held_is : (q : Quicklist) → q.tables.held ≡ elements (lists_of q.tables)
held_is q = sym (held_rows (rows_in_book (book_of q.tables)) ∙ rows_held q.tables q.whole.sized q.whole.totalled)

-- where it is not full, its count is below its room
pub room_more : (q : Quicklist) (held room : ℕ) → held ≡ elements (lists_in q) → room ≡ room_of q → (held ≡ room → ⊥) → elements (lists_in q) < room_of q
room_more q held room h r n = omega (arith, (quicklist_laws q).fits, h, r, n)

pub counted : (q : Quicklist) → elements (lists_in q) < room_of q → q.tables.held < room_of q
counted q l = omega (arith, l, held_is q)

pub there_flat : (t : Tables) (k : Key) (i : ℕ) → i < length (at (lists_of t) k) → i < length (flat (nodes_in t k))
there_flat t k i l = omega (arith, ap length (list_is t k))

pub within_flat : (t : Tables) (k : Key) (i : ℕ) → i ≤ length (at (lists_of t) k) → i ≤ length (flat (nodes_in t k))
within_flat t k i l = omega (arith, ap length (list_is t k))

pub lists_none : (t : Tables) → Whole t → t.held ≡ 0 → lists_of t ≡ []
lists_none t w z = no_rows (rows_in_book (book_of t)) (rows_held t w.sized w.totalled ∙ z)
