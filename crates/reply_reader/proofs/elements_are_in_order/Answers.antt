use Rattle.reply_reader.proofs.Turns.{element_laws}
use Rattle.reply_reader.proofs.elements_are_in_order.Goals as goal

pub returns : goal.returns
returns c = element_laws
