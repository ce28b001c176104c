use Rattle.quicklist.proofs.Finds.{placed}
use Rattle.quicklist.proofs.keyed.Quicklist.place_of.Goals as goal

pub returns : goal.returns
returns c = placed c.args.self.now.tables c.args.key.now c.args.self.now.whole c.find.result c.find.ensures.found
