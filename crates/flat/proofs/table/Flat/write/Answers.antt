use Rattle.std.proofs.Common.{take, ap, ◌∙◌}
use Rattle.std.proofs.Math.Seq.{take-set-lt}
use Rattle.std.proofs.lemmas.List.{length-set, map-set}
use Rattle.flat.specs.Records.{row, rows}
use Rattle.flat.proofs.table.Flat.write.Goals as goal

pub returns : goal.returns
returns c =
    let rs = c.args.self.now.records.now in
    let n = c.args.self.now.used in
    record { long = length-set rs c.args.slot c.args.it; rows = ap rows (take-set-lt n rs c.args.slot c.args.it c.requires) ∙ map-set row (take n rs) c.args.slot c.args.it }
