use Rattle.std.proofs.Common.{◌-◌, ◌^◌, [], ◌∷◌, refl}
use Rattle.wire.proofs.Stops.{passed_on}
use Rattle.wire.specs.Steps.{Number}
use Rattle.reply_reader.specs.Steps.{Integers}
use Rattle.wire.proofs.Sets.{back}
use Rattle.reply_reader.proofs.LineLemmas.{back_minus, back_plus}
use Rattle.reply_reader.proofs.lines.integer_line.Goals as goal

pub returns-in_err-n-clause-stopped : goal.returns-in_err-n-clause-stopped
returns-in_err-n-clause-stopped c =
    passed_on _ c.from_residual.result c.from_residual.ensures.1 (back Integers (Number 1 (2 ^ 63)) (45 ∷ []) _ _ _ c.in-Some.ensures.passed (back_minus _) c.in_err-n.ensures.stopped)

pub returns-in_err-n-2-clause-stopped : goal.returns-in_err-n-2-clause-stopped
returns-in_err-n-2-clause-stopped c =
    passed_on _ c.from_residual-in_err-n-2.result c.from_residual-in_err-n-2.ensures.1 (back Integers (Number 0 (2 ^ 63 - 1)) [] _ _ _ refl (back_plus _ c.in_default.ensures.none) c.in_err-n-2.ensures.stopped)
