use Rattle.flat.proofs.Ranks.{blank, at_rank}
use Rattle.flat.proofs.records.ranked.Goals as goal

pub returns : goal.returns
returns c = at_rank c.args.records.now c.args.rank c.ranked.result (c.ranked.ensures.ranked blank)
