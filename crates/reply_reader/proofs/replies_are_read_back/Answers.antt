use Rattle.reply_reader.proofs.One.{reads_back}
use Rattle.reply_reader.proofs.replies_are_read_back.Goals as goal

pub returns : goal.returns
returns c = reads_back
