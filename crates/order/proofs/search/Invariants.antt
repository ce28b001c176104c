use Rattle.std.specs.Option.{option_map}
use Rattle.order.specs.Orders.{After}
use Rattle.order.proofs.Searches.{Best}
use Rattle.order.proofs.search.Given as goal

abbrev pub invariant-loop-i : goal.invariant-loop-i
invariant-loop-i g l = let reads = g.T.TotalOrder.reads in Best g.T.TotalOrder.order reads (λ b. b.now) l.items (After g.T.TotalOrder.order (option_map (λ b. reads b.now) l.from)) l.i l.best
