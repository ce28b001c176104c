use Rattle.reply_reader.proofs.One.{unread}
use Rattle.reply_reader.proofs.element.Goals as goal

pub returns-clause-none : goal.returns-clause-none
returns-clause-none c = rw c.ok.ensures.value (unread c.args.elements.rest.now c.args.elements.left c.read_value.result c.read_value.ensures)
