-- What the tables of a quicklist show.
use Rattle.std.specs.Prelude.{◌≡◌, ℕ, suc, ◌+◌, ◌<◌, ◌≤◌, Bool, true, false, ◌≢◌, List, [], ◌∷◌, ◌++◌, map, length, slice_set, slice_index, slice_index_or}
use Rattle.order.specs.Keys.{Key, key_in}
use Rattle.store.specs.declared.Side.{Side}
use Rattle.store.specs.declared.Side.TheVariants.{Left, Right}
use Rattle.store.specs.Limits.{largest_store}
use Rattle.store.specs.Lists.{Value}
use Rattle.listpack.specs.Packs.{takes, swaps}
use Rattle.links.specs.Links.{chain, sum, Links, listed, Sound, Pool}
use Rattle.nodes.specs.Nodes.{Nodes, flat, cut, added, changed}
use Rattle.nodes.specs.Books.{Book}
use Rattle.records.specs.declared.record.ListRecord.{ListRecord}
use Rattle.records.specs.Records.{key_at, first_at}
use Rattle.quicklist.specs.declared.table.Node.{Node}
use Rattle.quicklist.specs.declared.table.Tables.{Tables}
pub use Rattle.quicklist.specs.Chains.{next_in, prev_in, values_at, last_at, count_at, next_list, used, links, Ahead, Behind, Joined, Refilled}

-- ---- the tables

abbrev pub room : Tables → ℕ
room t = length t.nodes.now

abbrev pub links_of : Tables → Links
links_of t = links t.nodes.now t.lists.now t.free_node

-- the numbers of the nodes of the list at e, and what these nodes hold
abbrev pub numbers : Tables → ℕ → List ℕ
numbers t e = listed (room t) (links_of t) e

abbrev pub nodes_of : Tables → ℕ → Nodes
nodes_of t e = map (values_at t.nodes.now) (numbers t e)

-- each record with the nodes of its list
abbrev pub book_of : Tables → Book
book_of t = map (λ (r : ListRecord). (key_in r.name, map (values_at t.nodes.now) (chain (next_in t.nodes.now) (room t) r.first))) t.lists.now

-- ---- what holds between any two calls

-- both tables have one length, within the limits
abbrev pub Sized : Tables → Type 0
Sized t = (length t.lists.now ≡ room t) × (1 ≤ room t) × (room t ≤ largest_store)

-- no more elements than the tables have places
abbrev pub Within : Tables → Type 0
Within t = t.held ≤ room t

-- no listed node is empty
abbrev pub Loaded : Tables → Type 0
Loaded t = (e i : ℕ) → e < room t → i < length (nodes_of t e) → 0 < length (slice_index_or (nodes_of t e) i [])

-- each record counts its elements, and all are counted
abbrev pub Counted : Tables → Type 0
Counted t = (e : ℕ) → e < room t → count_at t.lists.now e ≡ length (flat (nodes_of t e))

abbrev pub Totalled : Tables → Type 0
Totalled t = t.held ≡ sum (λ e. length (flat (nodes_of t e))) (room t)

-- different lists have different keys
abbrev pub Named : Tables → Type 0
Named t = (e i : ℕ) → (e < room t) × (i < room t) × (i ≢ e) × (0 < length (nodes_of t e)) × (0 < length (nodes_of t i)) × (key_at t.lists.now i ≡ key_at t.lists.now e) → ⊥

-- all of it at once
pub record Whole (t : Tables) : Type 0 where
  pub sized : Sized t
  pub within : Within t
  pub linked : Sound (room t) (links_of t)
  pub pooled : Pool (room t) (next_list t.lists.now) (used t.lists.now) t.free_list
  pub loaded : Loaded t
  pub counted : Counted t
  pub totalled : Totalled t
  pub named : Named t

-- while one more element fits, a node and a list record are free
abbrev pub Enough : Type 0
Enough = (t : Tables) → Whole t → t.held < room t → (0 < t.free_node) × (0 < t.free_list)

-- ---- all free

-- the node at index k leads to the one before it: its number is k + 1
abbrev pub Downward : List Node → ℕ → Type 0
Downward nodes k = slice_index (map (λ (x : Node). x.next) nodes) k ≡ k

-- the record at k is free and counts nothing, and leads to the one before it
pub record Threaded (lists : List ListRecord) (k : ℕ) : Type 0 where
  pub first : first_at lists k ≡ 0
  pub last : last_at lists k ≡ 0
  pub count : count_at lists k ≡ 0
  pub next : slice_index (map (λ (r : ListRecord). r.next) lists) k ≡ k

-- ---- a change to one list

-- the list at e has the nodes ns now, every other list and record is as it was
pub record Relisted (t t' : Tables) (e : ℕ) (ns : Nodes) : Type 0 where
  pub here : nodes_of t' e ≡ ns
  pub else : (i : ℕ) → i < room t → i ≢ e → nodes_of t' i ≡ nodes_of t i
  pub keys : (i : ℕ) → key_at t'.lists.now i ≡ key_at t.lists.now i
  pub firsts : (i : ℕ) → i ≢ e → first_at t'.lists.now i ≡ first_at t.lists.now i
  pub counts : (i : ℕ) → count_at t'.lists.now i ≡ count_at t.lists.now i
  pub nexts : (n : ℕ) → next_list t'.lists.now n ≡ next_list t.lists.now n
  pub free : t'.free_list ≡ t.free_list
  pub total : t'.held ≡ t.held
  pub nodes : room t' ≡ room t
  pub lists : length t'.lists.now ≡ length t.lists.now

-- ---- where a value lies

-- the node at a side of the list at e, 0 where it has none
abbrev pub end_node : Side → Tables → ℕ → ℕ
end_node Left t e = first_at t.lists.now e
end_node Right t e = last_at t.lists.now e

-- where a value goes that is added at a side of a node, and the node after which a new one goes
abbrev pub end_place : Side → List Value → ℕ
end_place Left vs = 0
end_place Right vs = length vs

abbrev pub node_before : Side → ℕ → ℕ
node_before Left n = 0
node_before Right n = n

-- the value at i of the list at e is the one at j of node n
pub record Located (t : Tables) (e i n j : ℕ) : Type 0 where
  pub before : List ℕ
  pub behind : List ℕ
  pub is : numbers t e ≡ before ++ n ∷ behind
  pub counted : length (flat (map (values_at t.nodes.now) before)) + j ≡ i
  pub inside : j < length (values_at t.nodes.now n)

-- v was written over the value at i in its node; or it does not fit there, and is to be taken out and added
abbrev pub Replaced : Tables → Tables → ℕ → ℕ → Value → Bool → Type 0
Replaced t t' e i v true = Relisted t t' e (changed takes swaps (nodes_of t e) i v)
Replaced t t' e i v false = Relisted t t' e (nodes_of t e) × (changed takes swaps (nodes_of t e) i v ≡ added takes (cut (nodes_of t e) i) i v) × (1 < length (flat (nodes_of t e)))

-- ---- a list record written over

-- the record at e has the key k, the count c and the link `next` now, and nothing else has changed
pub record Written (t t' : Tables) (e : ℕ) (k : Key) (c next : ℕ) : Type 0 where
  pub key : key_at t'.lists.now e ≡ k
  pub keys : (i : ℕ) → i ≢ e → key_at t'.lists.now i ≡ key_at t.lists.now i
  pub count : count_at t'.lists.now e ≡ c
  pub counts : (i : ℕ) → i ≢ e → count_at t'.lists.now i ≡ count_at t.lists.now i
  pub link : next_list t'.lists.now (suc e) ≡ next
  pub links : (n : ℕ) → 0 < n → n ≢ suc e → next_list t'.lists.now n ≡ next_list t.lists.now n
  pub firsts : first_at t'.lists.now ≡ first_at t.lists.now
  pub lasts : last_at t'.lists.now ≡ last_at t.lists.now
  pub long : length t'.lists.now ≡ length t.lists.now
  pub nodes : t'.nodes.now ≡ t.nodes.now
  pub node : t'.free_node ≡ t.free_node
  pub free : t'.free_list ≡ t.free_list
  pub held : t'.held ≡ t.held

-- ---- a change of the store

-- the record at e has the key k and the list with the nodes ns now, every other as it had, and all holds that must
pub record Rebooked (t t' : Tables) (e : ℕ) (k : Key) (ns : Nodes) : Type 0 where
  pub whole : Whole t'
  pub book : book_of t' ≡ slice_set (book_of t) e (k, ns)
  pub nodes : room t' ≡ room t
