use Rattle.quicklist.proofs.Stores.{lists_none}
use Rattle.quicklist.proofs.empty_over.Goals as goal

pub returns-clause-none : goal.returns-clause-none
returns-clause-none c = lists_none _ c.cleared.ensures.whole c.cleared.ensures.none
