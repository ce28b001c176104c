-- What each change leaves of the nodes, as a function from keys to the nodes of their lists: before, `ns`, and after, `ns'`.
use Rattle.std.specs.Prelude.{◌≡◌, ℕ, ◌≤◌, Some, None, Ok, Err, Option, Result, ◌≢◌}
use Rattle.order.specs.Keys.{Key}
use Rattle.store.specs.declared.Side.{Side}
use Rattle.store.specs.Limits.{largest_store}
use Rattle.store.specs.Lists.{Value}
use Rattle.listpack.specs.Packs.{takes, swaps}
use Rattle.nodes.specs.Nodes.{Nodes, pushed, popped, added, cut, changed}

-- the list of k has the nodes `new`, every other the nodes it had
abbrev pub Recut : (Key → Nodes) → (Key → Nodes) → Key → Nodes → Type 0
Recut ns ns' k new = (ns' k ≡ new) × ((o : Key) → (o ≢ k) → ns' o ≡ ns o)

-- so where the change was made; where it was refused, nothing has changed
abbrev pub Done : {U E : Type 0} → (Key → Nodes) → (Key → Nodes) → Key → Nodes → Result U E → Type 0
Done ns ns' k new (Ok _) = Recut ns ns' k new
Done ns ns' k new (Err _) = (o : Key) → ns' o ≡ ns o

abbrev pub NodesPushed : {U E : Type 0} → (Key → Nodes) → (Key → Nodes) → Side → Key → Value → Result U E → Type 0
NodesPushed ns ns' s k v r = Done ns ns' k (pushed takes s (ns k) v) r

abbrev pub NodesPopped : (Key → Nodes) → (Key → Nodes) → Side → Key → Option ℕ → Type 0
NodesPopped ns ns' s k None = (o : Key) → ns' o ≡ ns o
NodesPopped ns ns' s k (Some n) = Recut ns ns' k (popped s (ns k))

abbrev pub NodesSet : {U E : Type 0} → (Key → Nodes) → (Key → Nodes) → Key → ℕ → Value → Result U E → Type 0
NodesSet ns ns' k i v r = Done ns ns' k (changed takes swaps (ns k) i v) r

abbrev pub NodesInserted : {U E : Type 0} → (Key → Nodes) → (Key → Nodes) → Key → ℕ → Value → Result U E → Type 0
NodesInserted ns ns' k i v r = Done ns ns' k (added takes (ns k) i v) r

abbrev pub NodesRemoved : {U E : Type 0} → (Key → Nodes) → (Key → Nodes) → Key → ℕ → Result U E → Type 0
NodesRemoved ns ns' k i r = Done ns ns' k (cut (ns k) i) r

-- tables that a store can be made over: of one length, within the limits
abbrev pub Fit : ℕ → ℕ → Type 0
Fit nodes lists = (nodes ≡ lists) × (1 ≤ nodes) × (nodes ≤ largest_store)
