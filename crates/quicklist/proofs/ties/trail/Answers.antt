use Rattle.quicklist.proofs.Writes.{trailed}
use Rattle.quicklist.proofs.ties.trail.Goals as goal

pub returns : goal.returns
returns c = let w = c.lead_back_to.ensures in trailed c.args.nodes.now c.args.last c.args.p c.args.q c.lead_back_to.new.self c.index-nodes-q.result c.if-q-eq0.false c.requires w.prev w.next w.pack
