-- A list cut into nodes, and what each change of the list makes of them. Which values a node has room for is left open: a rule is told by `tk n v` whether the node n takes v as
-- one more value, and by `swap n j v` whether it takes v in the place of its value at j.
use Rattle.std.specs.Prelude.{◌≡◌, ℕ, ◌-◌, ◌<◌, ◌≤◌, Bool, true, cond, List, [], ◌∷◌, ◌++◌, length, take, drop, nat_lt, slice_set}
use Rattle.std.specs.List.{insert, remove, AllByRecursion}
use Rattle.store.specs.declared.Side.{Side}
use Rattle.store.specs.declared.Side.TheVariants.{Left, Right}
use Rattle.store.specs.Lists.{Value}
use Rattle.store.specs.Answers.{joined, place}

abbrev pub Nodes : Type 0
Nodes = List (List Value)

-- the values of all nodes, in their order
abbrev pub flat : Nodes → List Value
flat [] = []
flat (n ∷ ns) = n ++ flat ns

-- no node is empty
abbrev pub Filled : Nodes → Type 0
Filled ns = AllByRecursion (λ n. 0 < length n) ns

-- ---- ends

-- a value more on a side: in the node there, if it takes the value, else in a new node
unfoldable pub pushed : (List Value → Value → Bool) → Side → Nodes → Value → Nodes
pushed tk s [] v = (v ∷ []) ∷ []
pushed tk Left (n ∷ ns) v = cond (tk n v) ((v ∷ n) ∷ ns) ((v ∷ []) ∷ n ∷ ns)
pushed tk Right (n ∷ []) v = cond (tk n v) ((n ++ v ∷ []) ∷ []) (n ∷ (v ∷ []) ∷ [])
pushed tk Right (n ∷ m ∷ ns) v = n ∷ pushed tk Right (m ∷ ns) v

-- ---- any index: it is counted over the values of all nodes

-- a node, unless it is empty
abbrev pub unless_empty : List Value → Nodes
unless_empty [] = []
unless_empty (v ∷ vs) = (v ∷ vs) ∷ []

-- the value at i is taken out; a node left empty goes away
unfoldable pub cut : Nodes → ℕ → Nodes
cut [] i = []
cut (n ∷ ns) i = cond (nat_lt i (length n)) (unless_empty (remove n i) ++ ns) (n ∷ cut ns (i - length n))

-- the value on a side is taken out
abbrev pub popped : Side → Nodes → Nodes
popped s ns = cut ns (place s (length (flat ns)))

-- a value more before the one at j of a node: a node that does not take it is split there, and the value goes to the end of the left half, if that takes it, else to the front of the right half
abbrev pub put_in : (List Value → Value → Bool) → List Value → ℕ → Value → Nodes
put_in tk n j v = cond (tk n v) (insert n j v ∷ []) (cond (tk (take j n) v) ((take j n ++ v ∷ []) ∷ drop j n ∷ []) (take j n ∷ (v ∷ drop j n) ∷ []))

-- a value more before the one at i: in the node of that one, or at the end of the last node where i is the length
unfoldable pub added : (List Value → Value → Bool) → Nodes → ℕ → Value → Nodes
added tk [] i v = (v ∷ []) ∷ []
added tk (n ∷ []) i v = put_in tk n i v
added tk (n ∷ m ∷ ns) i v = cond (nat_lt i (length n)) (put_in tk n i v ++ m ∷ ns) (n ∷ added tk (m ∷ ns) (i - length n) v)

-- does the node of the value at i take v in its place; past the last value there is nothing to take
unfoldable pub swaps : (List Value → ℕ → Value → Bool) → Nodes → ℕ → Value → Bool
swaps swap [] i v = true
swaps swap (n ∷ ns) i v = cond (nat_lt i (length n)) (swap n i v) (swaps swap ns (i - length n) v)

-- v in the place of the value at i, in the same node
unfoldable pub written : Nodes → ℕ → Value → Nodes
written [] i v = []
written (n ∷ ns) i v = cond (nat_lt i (length n)) (slice_set n i v ∷ ns) (n ∷ written ns (i - length n) v)

-- v in the place of the value at i: in the same node, if that takes it, else the old value is taken out and the new one added
unfoldable pub changed : (List Value → Value → Bool) → (List Value → ℕ → Value → Bool) → Nodes → ℕ → Value → Nodes
changed tk swap ns i v = cond (swaps swap ns i v) (written ns i v) (added tk (cut ns i) i v)

-- what can be relied on of nodes without a look at the definitions
pub record NodeLaws : Type 0 where
  -- the list changes as it should, wherever it is cut into nodes
  pub pushes : (tk : List Value → Value → Bool) (s : Side) (ns : Nodes) (v : Value) → flat (pushed tk s ns v) ≡ joined s (flat ns) v
  pub cuts : (ns : Nodes) (i : ℕ) → i < length (flat ns) → flat (cut ns i) ≡ remove (flat ns) i
  pub pops : (s : Side) (ns : Nodes) → 0 < length (flat ns) → flat (popped s ns) ≡ remove (flat ns) (place s (length (flat ns)))
  pub adds : (tk : List Value → Value → Bool) (ns : Nodes) (i : ℕ) (v : Value) → i ≤ length (flat ns) → flat (added tk ns i v) ≡ insert (flat ns) i v
  pub changes : (tk : List Value → Value → Bool) (swap : List Value → ℕ → Value → Bool) (ns : Nodes) (i : ℕ) (v : Value) → i < length (flat ns) → flat (changed tk swap ns i v) ≡ slice_set (flat ns) i v
  -- no node is ever empty, where an empty one takes the value
  pub pushes_filled : (tk : List Value → Value → Bool) (s : Side) (ns : Nodes) (v : Value) → Filled ns → Filled (pushed tk s ns v)
  pub cuts_filled : (ns : Nodes) (i : ℕ) → Filled ns → Filled (cut ns i)
  pub adds_filled : (tk : List Value → Value → Bool) (ns : Nodes) (i : ℕ) (v : Value) → tk [] v ≡ true → Filled ns → Filled (added tk ns i v)
  pub changes_filled : (tk : List Value → Value → Bool) (swap : List Value → ℕ → Value → Bool) (ns : Nodes) (i : ℕ) (v : Value) → tk [] v ≡ true → Filled ns → Filled (changed tk swap ns i v)
  pub few : (ns : Nodes) → Filled ns → length ns ≤ length (flat ns)
