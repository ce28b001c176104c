use Rattle.reply_reader.proofs.One.{settled}
use Rattle.reply_reader.proofs.answers_are_settled.Goals as goal

pub returns : goal.returns
returns c = settled
