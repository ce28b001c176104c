use Rattle.listpack.proofs.PackLaws.{pack_laws}
use Rattle.listpack.proofs.packs_are_lawful.Goals as goal

pub returns : goal.returns
returns c = pack_laws
