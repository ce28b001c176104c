use Rattle.quicklist.proofs.Walks.{Walk}
use Rattle.quicklist.proofs.table.Tables.walk_to.Given as goal

abbrev pub invariant-loop : goal.invariant-loop
invariant-loop l = Walk l.self l.e l.index l.counter l.node l.place
