use Rattle.std.proofs.Common.{ℕ, ◌<◌}
use Rattle.quicklist.specs.Tables.{Threaded}
use Rattle.quicklist.proofs.whole.thread_lists.Given as goal

abbrev pub invariant-loop-i : goal.invariant-loop-i
invariant-loop-i l = (k : ℕ) → k < l.i → Threaded l.lists k
