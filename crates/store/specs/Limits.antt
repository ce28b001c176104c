-- The limits and numbers of a list store; `longest_key` stands with the keys, in the crate `order`.
use Rattle.std.specs.Prelude.{ℕ}
use Rattle.store.specs.declared.refusal.Refusal.{Refusal}
use Rattle.store.specs.declared.refusal.Refusal.TheVariants.{LongKey, LongValue, Full, OutOfRange}

-- the most bytes that a value has
abbrev pub longest_value : ℕ
longest_value = 64

-- the most elements that a store can be made for
abbrev pub largest_store : ℕ
largest_store = 4096

-- the number of each refusal of a store's operation
abbrev pub refusal_number : Refusal → ℕ
refusal_number LongKey = 1
refusal_number LongValue = 2
refusal_number Full = 3
refusal_number OutOfRange = 4

-- the number of the refusal to prepare a store over tables that do not fit
abbrev pub unfit_number : ℕ
unfit_number = 7
