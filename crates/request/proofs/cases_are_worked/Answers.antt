use Rattle.request.proofs.Worked.{worked}
use Rattle.request.proofs.cases_are_worked.Goals as goal

pub returns : goal.returns
returns c = worked
