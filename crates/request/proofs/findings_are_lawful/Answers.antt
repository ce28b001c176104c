use Rattle.request.proofs.Laws.{one, after_request, after_fault, bounded, below}
use Rattle.request.proofs.findings_are_lawful.Goals as goal

pub returns : goal.returns
returns c = record { one = one; after_request = after_request; after_fault = after_fault; bounded = bounded; below = below }
