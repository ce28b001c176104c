use Rattle.std.proofs.Common.{[], refl}
use Rattle.reply_reader.specs.Steps.{After, Integers}
use Rattle.wire.proofs.Stops.{passed_on_by_cases}
use Rattle.wire.proofs.Sets.{back}
use Rattle.reply_reader.proofs.Marks.{kind_integer}
use Rattle.reply_reader.proofs.values.read_integer.Goals as goal

pub returns-in_err-n : goal.returns-in_err-n
returns-in_err-n c =
    λ d. passed_on_by_cases _ _ c.from_residual.result c.from_residual.ensures.1 (back (After 58 d) Integers [] _ _ _ refl (kind_integer d _) c.in_err-n.ensures.stopped)
