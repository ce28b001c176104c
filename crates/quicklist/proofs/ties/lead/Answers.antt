use Rattle.quicklist.proofs.Writes.{led}
use Rattle.quicklist.proofs.ties.lead.Goals as goal

pub returns : goal.returns
returns c = let w = c.lead_to.ensures in led c.args.nodes.now c.args.first c.args.p c.args.q c.lead_to.new.self c.index-nodes-p.result c.if-p-eq0.false c.requires w.next w.prev w.pack
