use Rattle.std.proofs.Common.{sym, ap, ◌∙◌}
use Rattle.records.specs.declared.record.ListRecord.{ListRecord}
use Rattle.quicklist.specs.Tables.{end_node}
use Rattle.quicklist.proofs.Records.{field_read}
use Rattle.quicklist.proofs.table.Tables.end_of.Goals as goal

pub returns-in-Left : goal.returns-in-Left
returns-in-Left c = field_read (λ (r : ListRecord). r.first) c.args.self.now.lists.now c.args.e 0 _ c.requires ∙ ap (λ d. end_node d c.args.self.now c.args.e) (sym c.in-Left.is)

pub returns-in-Right : goal.returns-in-Right
returns-in-Right c = field_read (λ (r : ListRecord). r.last) c.args.self.now.lists.now c.args.e 0 _ c.requires ∙ ap (λ d. end_node d c.args.self.now c.args.e) (sym c.in-Right.is)
