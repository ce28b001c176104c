-- A walk's next index fits: neither lists nor keys are more than a store can hold.
use Rattle.std.proofs.Common.{ℕ, ◌≤◌, [], ◌∷◌, length, arith}
use Rattle.order.specs.Keys.{Key}
use Rattle.store.specs.Limits.{largest_store}
use Rattle.store.specs.Lists.{Lists, StoreLaws, Canonical, at, held, keys_of}
use Rattle.store.proofs.ListLaws.{held_put}

-- a list has no more elements than are held
pub few_values : (room : ℕ) (ls : Lists) (k : Key) → StoreLaws room ls → length (at ls k) ≤ largest_store
few_values room ls k laws = omega (arith, held_put ls k [] laws.canonical, laws.fits, laws.few)

-- nor are there more keys: each has an element
keys_held : (ls : Lists) → Canonical ls → length (keys_of ls) ≤ held ls
unfolding held Canonical
keys_held [] c = omega arith
keys_held (e ∷ es) c = omega (arith, c.0, keys_held es c.2)

pub few_keys : (room : ℕ) (ls : Lists) → StoreLaws room ls → length (keys_of ls) ≤ largest_store
few_keys room ls laws = omega (arith, keys_held ls laws.canonical, laws.fits, laws.few)
