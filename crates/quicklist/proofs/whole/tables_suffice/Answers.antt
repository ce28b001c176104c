use Rattle.quicklist.proofs.Wholes.{node_left, list_left}
use Rattle.quicklist.proofs.whole.tables_suffice.Goals as goal

pub returns : goal.returns
returns c = λ t w h. (node_left t w h, list_left t w h)
