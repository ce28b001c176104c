use Rattle.quicklist.proofs.Writes.{joined}
use Rattle.quicklist.proofs.ties.tie.Goals as goal

pub returns : goal.returns
returns c = joined c.args.nodes.now c.lead-first.new.nodes c.trail-last.new.nodes c.args.ends.first c.args.ends.last c.lead-first.result c.trail-last.result c.args.p c.args.q c.lead-first.ensures c.trail-last.ensures
