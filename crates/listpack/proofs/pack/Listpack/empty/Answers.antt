use Rattle.std.proofs.Common.{ℕ, List, [], ◌∷◌, ◌++◌, replicate, refl}
use Rattle.listpack.specs.Layout.{header}
use Rattle.listpack.proofs.Contents.{Holds, holds_none, holds_lawful, values_held}
use Rattle.listpack.proofs.pack.Listpack.empty.Goals as goal

-- the bytes of the listpack of no values, and the zeros behind them
none : List ℕ
none = header 7 0 ++ (255 ∷ replicate 501 0)

held : Holds none []
unfolding none
held = holds_none none (replicate 501 0) refl

pub invariant_of-result : goal.invariant_of-result
unfolding none
invariant_of-result c = record { lawful = holds_lawful none [] held }

pub returns : goal.returns
unfolding none
returns c = values_held none [] held
