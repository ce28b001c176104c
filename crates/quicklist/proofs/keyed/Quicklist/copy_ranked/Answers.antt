use Rattle.std.proofs.Common.{[], length, get_or, sym, refl, ap, ◌∙◌, arith}
use Rattle.order.specs.Keys.{key_in}
use Rattle.store.specs.Answers.{over}
use Rattle.records.specs.declared.record.ListRecord.{ListRecord}
use Rattle.quicklist.proofs.Records.{field_read}
use Rattle.quicklist.proofs.Finds.{keys_marked}
use Rattle.quicklist.proofs.keyed.Quicklist.copy_ranked.Goals as goal

pub returns-in_err-e : goal.returns-in_err-e
returns-in_err-e c = let none = rw c.in_err-e.was at c.ranked.ensures in rw c.from_residual.ensures (omega (arith, none, ap length (keys_marked c.args.self.now.tables c.args.self.now.whole)), refl)

pub returns : goal.returns
returns c =
    let s = c.args.self.now.tables in
    let r = c.in_ok-e.ensures in
    let m = keys_marked s c.args.self.now.whole in
    let k = field_read (λ (x : ListRecord). key_in x.name) s.lists.now c.in_ok-e.e [] _ r.0 ∙ r.3 ∙ ap (λ ks. get_or ks c.args.rank []) (sym m) in
    (omega (arith, r.2, ap length m), c.copy_to.ensures.few, c.copy_to.ensures.size ∙ ap length k, c.copy_to.ensures.copied ∙ ap (over c.args.out.now) k)
