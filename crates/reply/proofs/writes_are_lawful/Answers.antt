use Rattle.reply.proofs.Overs.{write_laws}
use Rattle.reply.proofs.writes_are_lawful.Goals as goal

pub returns : goal.returns
returns c = write_laws
