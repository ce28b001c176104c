-- The values that a listpack holds, and which others fit.
use Rattle.std.specs.Prelude.{ℕ, Bool, List, ◌∷◌, nat_le, slice_set}
use Rattle.store.specs.Lists.{Value}
use Rattle.listpack.specs.declared.pack.Listpack.{Listpack}
pub use Rattle.listpack.specs.Layout.{most_bytes, entries, total, pack, values, Lawful}

abbrev pub values_in : Listpack → List Value
values_in p = values p.bytes

-- whether one more value fits
unfoldable pub takes : List Value → Value → Bool
takes vs v = nat_le (total (v ∷ vs)) most_bytes

-- whether a value fits in the place of the one at i
unfoldable pub swaps : List Value → ℕ → Value → Bool
swaps vs i v = nat_le (total (slice_set vs i v)) most_bytes
