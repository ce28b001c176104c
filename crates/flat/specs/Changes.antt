-- What each operation of a flat store leaves of its rows: what goes where, the others in their order.
use Rattle.std.specs.Prelude.{◌≡◌, ℕ, ◌≤◌, List, [], ◌∷◌, ◌++◌, length, Some, None, Ok, Err, Option, Result, slice_set}
use Rattle.std.specs.List.{insert, remove}
use Rattle.order.specs.Keys.{Key}
use Rattle.store.specs.declared.Side.{Side}
use Rattle.store.specs.declared.Side.TheVariants.{Left, Right}
use Rattle.store.specs.declared.refusal.Refusal.{Refusal}
use Rattle.store.specs.Limits.{largest_store}
use Rattle.store.specs.Answers.{place}
use Rattle.store.specs.Lists.{Value, at}
use Rattle.store.specs.Rows.{Row, lists_of, spot}

-- a left push goes before all rows, a right push after all
abbrev pub joined_rows : Side → List Row → Row → List Row
joined_rows Left ps p = p ∷ ps
joined_rows Right ps p = ps ++ p ∷ []

abbrev pub RowsPushed : {U : Type 0} → List Row → List Row → Side → Key → Value → Result U Refusal → Type 0
RowsPushed ps ps' s k v (Ok _) = ps' ≡ joined_rows s ps (k, v)
RowsPushed ps ps' s k v (Err _) = ps' ≡ ps

abbrev pub RowsPopped : List Row → List Row → Side → Key → Option ℕ → Type 0
RowsPopped ps ps' s k None = ps' ≡ ps
RowsPopped ps ps' s k (Some _) = ps' ≡ remove ps (spot k (place s (length (at (lists_of ps) k))) ps)

abbrev pub RowsSet : {U : Type 0} → List Row → List Row → Key → ℕ → Value → Result U Refusal → Type 0
RowsSet ps ps' k i v (Ok _) = ps' ≡ slice_set ps (spot k i ps) (k, v)
RowsSet ps ps' k i v (Err _) = ps' ≡ ps

-- right before the row of the element at i; after all rows where there is none
abbrev pub RowsInserted : {U : Type 0} → List Row → List Row → Key → ℕ → Value → Result U Refusal → Type 0
RowsInserted ps ps' k i v (Ok _) = ps' ≡ insert ps (spot k i ps) (k, v)
RowsInserted ps ps' k i v (Err _) = ps' ≡ ps

abbrev pub RowsRemoved : {U : Type 0} → List Row → List Row → Key → ℕ → Result U Refusal → Type 0
RowsRemoved ps ps' k i (Ok _) = ps' ≡ remove ps (spot k i ps)
RowsRemoved ps ps' k i (Err _) = ps' ≡ ps

-- a table of n records makes a store
abbrev pub Fit : ℕ → Type 0
Fit n = (1 ≤ n) × (n ≤ largest_store)
