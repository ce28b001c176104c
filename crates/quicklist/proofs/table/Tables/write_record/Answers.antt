use Rattle.std.proofs.Common.{refl, ◌∙◌, length-set}
use Rattle.quicklist.proofs.Wholes.{record_written, record_linked}
use Rattle.quicklist.proofs.table.Tables.write_record.Goals as goal

pub invariant_of-self : goal.invariant_of-self
invariant_of-self c = record { same = length-set _ _ _ ∙ c.args.self.now.same; linked = record_linked c.args.self.now c.args.e _ _ refl refl }

pub returns : goal.returns
returns c = record_written c.args.self.now _ c.args.e _ _ c.requires refl refl refl refl refl refl refl
