-- What the private function that writes a value answers.
use Rattle.std.specs.Prelude.{◌<◌, ◌≤◌, List, length, Ok, Err, Result}
use Rattle.store.specs.Limits.{longest_value}
use Rattle.store.specs.Lists.{Value}
use Rattle.listpack.specs.Layout.{most_bytes, total}
use Rattle.listpack.specs.declared.pack.PackError.{PackError}
use Rattle.listpack.specs.declared.pack.PackError.TheVariants.{OutOfRange, LongValue, Full}

-- the answer to a change that writes v and leaves the values ws: made where v is short enough and they fit, else the first of the two that fails
abbrev pub Answered : {U : Type 0} → Value → List Value → Result U PackError → Type 0
Answered v ws (Ok _) = (length v ≤ longest_value) × (total ws ≤ most_bytes)
Answered v ws (Err OutOfRange) = ⊥
Answered v ws (Err LongValue) = longest_value < length v
Answered v ws (Err Full) = (length v ≤ longest_value) × (most_bytes < total ws)
