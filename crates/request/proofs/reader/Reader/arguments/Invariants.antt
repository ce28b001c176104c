use Rattle.std.proofs.Common.{length}
use Rattle.request.proofs.Rows.{Sofar}
use Rattle.request.proofs.reader.Reader.arguments.Given as goal

abbrev pub invariant-loop-part : goal.invariant-loop-part
invariant-loop-part l = Sofar l.initial.self l.self (length l.fn.parts) l.part-index l.part-items
