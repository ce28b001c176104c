use Rattle.std.proofs.Common.{take, ap, ◌∙◌}
use Rattle.flat.specs.Records.{row, rows}
use Rattle.flat.proofs.Shifts.{closed, map_removed}
use Rattle.flat.proofs.table.Flat.cut.Goals as goal

pub returns-clause-rows : goal.returns-clause-rows
returns-clause-rows c =
    let rs = c.args.self.now.records.now in
    let n = c.args.self.now.used in
    let moved = c.copy_within.ensures.by_index in
    ap rows (closed rs c.copy_within.new.self c.args.slot n c.args.self.now.fits c.requires c.copy_within.ensures.len moved.1 moved.0) ∙ map_removed row (take n rs) c.args.slot
