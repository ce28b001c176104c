use Rattle.std.proofs.Common.{◌∙◌, sym, arith}
use Rattle.entry.proofs.Widths.{number_none}
use Rattle.entry.proofs.read_number.Goals as goal

pub returns-in_err-coded-in-len1-up : goal.returns-in_err-coded-in-len1-up
returns-in_err-coded-in-len1-up c = c.from_residual.ensures ∙ sym (number_none c.args.coded.now (omega arith) (c.coded.ensures.none c.in_err-coded-in-len1-up.was))
