-- What can be relied on of listpacks without a look at the definitions.
use Rattle.std.specs.Prelude.{◌≡◌, ℕ, ◌+◌, ◌<◌, ◌≤◌, true, false, List, [], ◌++◌, length, take, drop, slice_index_or, slice_set}
use Rattle.std.specs.List.{insert, remove}
use Rattle.store.specs.Limits.{longest_value}
use Rattle.store.specs.Lists.{Value}
use Rattle.entry.specs.Entry.{entry}
use Rattle.listpack.specs.declared.pack.Listpack.{Listpack}
use Rattle.listpack.specs.Layout.{Shorts}
use Rattle.listpack.specs.Packs.{most_bytes, total, pack, takes, values, values_in}

pub record PackLaws : Type 0 where
  -- the values are read back from their listpack, whatever bytes follow it; so no two lists of values have the same
  pub reads : (vs : List Value) (rest : List ℕ) → Shorts vs → total vs ≤ most_bytes → values (pack vs ++ rest) ≡ vs
  pub apart : (vs ws : List Value) → Shorts vs → Shorts ws → total vs ≤ most_bytes → total ws ≤ most_bytes → pack vs ≡ pack ws → vs ≡ ws
  -- a listpack is as long as it says
  pub long : (vs : List Value) → length (pack vs) ≡ total vs
  -- what a listpack holds fits, is short and few
  pub fits : (p : Listpack) → total (values_in p) ≤ most_bytes
  pub short : (p : Listpack) (k : ℕ) → length (slice_index_or (values_in p) k []) ≤ longest_value
  pub few : (p : Listpack) → length (values_in p) ≤ 250
  -- each value counts with its entry
  pub inserts : (vs : List Value) (i : ℕ) (v : Value) → total (insert vs i v) ≡ total vs + length (entry v)
  pub removes : (vs : List Value) (i : ℕ) → i < length vs → total (remove vs i) + length (entry (slice_index_or vs i [])) ≡ total vs
  pub sets : (vs : List Value) (i : ℕ) (v : Value) → i < length vs → total (slice_set vs i v) + length (entry (slice_index_or vs i [])) ≡ total vs + length (entry v)
  pub splits : (i : ℕ) (vs : List Value) → total (take i vs) + total (drop i vs) ≡ total vs + 7
  -- a value that is short enough fits alone, and on one side of any split
  pub lone : (v : Value) → length v ≤ longest_value → takes [] v ≡ true
  pub one_side : (vs : List Value) (j : ℕ) (v : Value) → length v ≤ longest_value → total vs ≤ most_bytes → takes (take j vs) v ≡ false → takes (drop j vs) v ≡ true
