use Rattle.std.proofs.Common.{◌≡◌, ◌++◌, length, decimal}
use Rattle.wire.specs.Steps.{Between}
use Rattle.wire.proofs.steps.digits.Given as goal

abbrev pub invariant-loop-d : goal.invariant-loop-d
invariant-loop-d l = Between l.bounds.low l.bounds.high l.n × (l.bytes ≡ decimal l.n ++ l.rest)

abbrev pub decreases-loop-d : goal.decreases-loop-d
decreases-loop-d l = length l.rest
