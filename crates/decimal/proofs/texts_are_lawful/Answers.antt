use Rattle.decimal.specs.NumberLaws.{reads, reads_natural, writes, writes_natural}
use Rattle.decimal.proofs.texts_are_lawful.Goals as goal

pub returns : goal.returns
returns c = record { reads = reads; reads_natural = reads_natural; writes = writes; writes_natural = writes_natural }
