use Rattle.std.proofs.Common.{length, sym, ap, ◌∙◌, arith}
use Rattle.records.specs.declared.record.ListRecord.{ListRecord}
use Rattle.quicklist.proofs.Records.{field_read}
use Rattle.quicklist.proofs.Finds.{at_none, at_here}
use Rattle.quicklist.proofs.keyed.Quicklist.elements_of.Goals as goal

pub returns-in_default : goal.returns-in_default
returns-in_default c = sym (ap length (at_none c.args.self.now.tables c.args.self.now.whole c.args.key.now c.in_default.ensures))

pub returns : goal.returns
returns c =
    let s = c.args.self.now.tables in
    let w = c.args.self.now.whole in
    let p = c.in-Some.ensures in
    field_read (λ (r : ListRecord). r.count) s.lists.now c.in-Some.e 0 _ (omega (arith, p.0, w.sized.0)) ∙ w.counted c.in-Some.e p.0
    ∙ sym (ap length (at_here s w c.in-Some.e c.args.key.now p))
