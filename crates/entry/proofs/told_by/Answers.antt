use Rattle.std.proofs.Common.{arith}
use Rattle.entry.proofs.Widths.{told_none}
use Rattle.std.proofs.lemmas.Grind.{common_steps}
use Rattle.entry.proofs.told_by.Goals as goal

pub returns-in_err-coded-in_default : goal.returns-in_err-coded-in_default
returns-in_err-coded-in_default c = let t = told_none c.args.first c.args.second (omega arith) (c.coded.ensures.none c.in_err-coded-in_default.was) in grind (arith, common_steps)
