use Rattle.std.proofs.Common.{arith}
use Rattle.store.proofs.Steps.{few_keys}
use Rattle.store.proofs.walks.KeysOfIterator.next.Goals as goal

pub overflow_add-self : goal.overflow_add-self
overflow_add-self g c = let s = c.self.inside.store.now in omega (arith, few_keys (g.S.ListEnds.room s) (g.S.ListEnds.lists s) (g.met.S.ListEnds.laws s), c.in_ok-size.ensures.0)
