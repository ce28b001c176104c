use Rattle.order.proofs.Searches.{least_within}
use Rattle.order.proofs.least.Goals as goal

pub returns-clause-within : goal.returns-clause-within
returns-clause-within g c = least_within g.T.TotalOrder.order g.T.TotalOrder.reads c.args.items.now c.search.result c.search.ensures.first c.search.ensures.within
