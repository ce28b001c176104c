-- The store that the tables of a quicklist are: its lists, and how each is cut into nodes.
use Rattle.std.specs.Prelude.{◌≡◌, ℕ, ◌<◌, length, Some, None, Option, ◌≢◌}
use Rattle.order.specs.Keys.{Key}
use Rattle.store.specs.Lists.{Lists, put}
use Rattle.nodes.specs.Nodes.{Nodes, flat}
use Rattle.nodes.specs.Books.{book_lists, nodes_at}
use Rattle.records.specs.Records.{key_at}
use Rattle.quicklist.specs.declared.table.Tables.{Tables}
use Rattle.quicklist.specs.Tables.{room, nodes_of, book_of, Whole}

-- the lists, and the nodes of the list of a key
abbrev pub lists_of : Tables → Lists
lists_of t = book_lists (book_of t)

abbrev pub nodes_in : Tables → Key → Nodes
nodes_in t k = nodes_at k (book_of t)

-- the record in use of a key, or that there is none
abbrev pub Placed : Tables → Key → Option ℕ → Type 0
Placed t k None = (i : ℕ) → i < room t → 0 < length (nodes_of t i) → key_at t.lists.now i ≢ k
Placed t k (Some e) = (e < room t) × (key_at t.lists.now e ≡ k) × (0 < length (nodes_of t e))

-- the list of k has the nodes ns now, every other list the nodes it had, and all holds that must
pub record Changed (t t' : Tables) (k : Key) (ns : Nodes) : Type 0 where
  pub whole : Whole t'
  pub kept : room t' ≡ room t
  pub lists : lists_of t' ≡ put (lists_of t) k (flat ns)
  pub nodes : nodes_in t' k ≡ ns
  pub others : (o : Key) → (o ≢ k) → nodes_in t' o ≡ nodes_in t o
