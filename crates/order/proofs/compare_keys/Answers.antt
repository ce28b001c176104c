use Rattle.order.proofs.KeyLaws.{said}
use Rattle.order.proofs.compare_keys.Goals as goal

pub returns : goal.returns
returns c = said c.args.a.now c.args.b.now c.cmp.result c.cmp.ensures
