use Rattle.std.proofs.Common.{arith}
use Rattle.store.proofs.Steps.{few_values}
use Rattle.store.proofs.walks.ValuesOfIterator.next.Goals as goal

pub overflow_add-self : goal.overflow_add-self
overflow_add-self g c = let s = c.self.inside.store.now in omega (arith, few_values (g.S.ListEnds.room s) (g.S.ListEnds.lists s) c.self.inside.key.now (g.met.S.ListEnds.laws s), c.in_ok-size.ensures.0)
