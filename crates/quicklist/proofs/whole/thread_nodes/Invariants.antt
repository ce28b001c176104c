use Rattle.std.proofs.Common.{ℕ, ◌<◌}
use Rattle.quicklist.specs.Tables.{Downward}
use Rattle.quicklist.proofs.whole.thread_nodes.Given as goal

abbrev pub invariant-loop-i : goal.invariant-loop-i
invariant-loop-i l = (k : ℕ) → k < l.i → Downward l.nodes k
