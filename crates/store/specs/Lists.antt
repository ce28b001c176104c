-- What a list store holds: keys in ascending order, each with a list of values that is not empty. So equal stores have equal `Lists`.
use Rattle.std.specs.Prelude.{◌≡◌, ℕ, ◌+◌, ◌<◌, ◌≤◌, cond, List, [], ◌∷◌, map, length, ◌≢◌, slice_index_or}
use Rattle.std.specs.declared.cmp.Ordering.TheVariants.{Less}
use Rattle.std.specs.Ordering.{is_eq, match_ordering as by_order}
use Rattle.order.specs.Keys.{Key, key_order, longest_key}
use Rattle.store.specs.Limits.{longest_value, largest_store}

abbrev pub Value : Type 0
Value = List ℕ

abbrev pub Lists : Type 0
Lists = List (Key × List Value)

-- the list of a key; a key that is not there has the empty list
unfoldable pub at : Lists → Key → List Value
at [] k = []
at (e ∷ es) k = cond (is_eq (key_order k e.0)) e.1 (at es k)

-- the list of k in front, unless it is empty
unfoldable pub lead : Key → List Value → Lists → Lists
lead k [] es = es
lead k (v ∷ vs) es = (k, v ∷ vs) ∷ es

-- the same lists, but vs at k: every change of a store is one of these
unfoldable pub put : Lists → Key → List Value → Lists
put [] k vs = lead k vs []
put (e ∷ es) k vs = by_order (key_order k e.0) (lead k vs (e ∷ es)) (lead k vs es) (e ∷ put es k vs)

-- the elements in all
unfoldable pub held : Lists → ℕ
held [] = 0
held (e ∷ es) = length e.1 + held es

-- the keys by rank: the one at rank 0 comes first
abbrev pub keys_of : Lists → List Key
keys_of ls = map (λ e. e.0) ls

-- k comes before every key
unfoldable pub Above : Key → Lists → Type 0
Above k [] = Unit {0}
Above k (e ∷ es) = (key_order k e.0 ≡ Less) × Above k es

-- ascending keys, no empty list
unfoldable pub Canonical : Lists → Type 0
Canonical [] = Unit {0}
Canonical (e ∷ es) = (0 < length e.1) × Above e.0 es × Canonical es

-- what holds of every store, in every state, for its capacity and its lists
pub record StoreLaws (room : ℕ) (ls : Lists) : Type 0 where
  -- the capacity is within its limits, and what is held within it
  pub some : 1 ≤ room
  pub few : room ≤ largest_store
  pub fits : held ls ≤ room
  -- the lists are in their one form, with short keys and values
  pub canonical : Canonical ls
  pub keys : (k : Key) → longest_key < length k → at ls k ≡ []
  pub values : (k : Key) (i : ℕ) → length (slice_index_or (at ls k) i []) ≤ longest_value

-- what can be relied on of `Lists` without a look at the definitions
pub record ListLaws : Type 0 where
  -- a look-up after a change
  pub same : (ls : Lists) (k : Key) (vs : List Value) → Canonical ls → at (put ls k vs) k ≡ vs
  pub other : (ls : Lists) (k q : Key) (vs : List Value) → (q ≢ k) → at (put ls k vs) q ≡ at ls q
  pub keeps : (ls : Lists) (k : Key) (vs : List Value) → Canonical ls → Canonical (put ls k vs)
  pub again : (ls : Lists) (k : Key) (vs ws : List Value) → Canonical ls → put (put ls k vs) k ws ≡ put ls k ws
  pub back : (ls : Lists) (k : Key) → Canonical ls → put ls k (at ls k) ≡ ls
  -- how many elements a change leaves
  pub counts : (ls : Lists) (k : Key) (vs : List Value) → Canonical ls → held (put ls k vs) + length (at ls k) ≡ held ls + length vs
  -- equal look-ups are equal lists
  pub equal : (ls ms : Lists) → Canonical ls → Canonical ms → ((k : Key) → at ls k ≡ at ms k) → ls ≡ ms
  -- the keys by rank ascend, and are just those with an element
  pub ascend : (ls : Lists) (i j : ℕ) → Canonical ls → i < j → j < length (keys_of ls) → key_order (slice_index_or (keys_of ls) i []) (slice_index_or (keys_of ls) j []) ≡ Less
  pub ranked : (k : Key) (ls : Lists) → 0 < length (at ls k) → (m : ℕ) × (m < length (keys_of ls)) × (slice_index_or (keys_of ls) m [] ≡ k)
  pub filled : (ls : Lists) (m : ℕ) → Canonical ls → m < length (keys_of ls) → 0 < length (at ls (slice_index_or (keys_of ls) m []))
