use Rattle.std.proofs.Common.{refl, arith}
use Rattle.quicklist.proofs.Clearings.{threaded_more}
use Rattle.quicklist.proofs.whole.thread_lists.Goals as goal

pub loop-i-preserved : goal.loop-i-preserved
loop-i-preserved c = threaded_more c.loop-i.lists c.loop-i.i _ c.loop-i.invariant (omega (arith, c.loop-i-test.true)) c.blank.ensures.first c.blank.ensures.last c.blank.ensures.count refl
