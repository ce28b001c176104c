use Rattle.std.proofs.Common.{arith}
use Rattle.wire.specs.Steps.{Stopped, Sized}
use Rattle.wire.proofs.Sets.{missed}
use Rattle.wire.proofs.Sizes.{sized_short, bytes_from}
use Rattle.wire.proofs.steps.part.Goals as goal

pub returns-clause-stopped : goal.returns-clause-stopped
returns-clause-stopped c =
    let s = c.args.bytes.now in
    let n = c.args.size in
    rw c.ok_or.ensures.value (missed c.split_at_checked.result _ _ _ (Stopped (Sized n) s) c.split_at_checked.ensures.cases (λ h. sized_short n s (bytes_from s (λ i. omega (arith, c.type_inv.bytes i))) h))
