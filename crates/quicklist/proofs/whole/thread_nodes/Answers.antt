use Rattle.std.proofs.Common.{refl, arith}
use Rattle.quicklist.proofs.Clearings.{downward_more}
use Rattle.quicklist.proofs.whole.thread_nodes.Goals as goal

pub loop-i-preserved : goal.loop-i-preserved
loop-i-preserved c = downward_more c.loop-i.nodes c.loop-i.i _ c.loop-i.invariant (omega (arith, c.loop-i-test.true)) refl
