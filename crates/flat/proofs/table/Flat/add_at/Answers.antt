use Rattle.std.proofs.Common.{take, ap, ◌∙◌}
use Rattle.flat.specs.Records.{row, rows}
use Rattle.flat.proofs.Shifts.{opened, map_inserted}
use Rattle.flat.proofs.table.Flat.add_at.Goals as goal

pub returns-clause-rows : goal.returns-clause-rows
returns-clause-rows c =
    let rs = c.args.self.now.records.now in
    let n = c.args.self.now.used in
    let moved = c.copy_within.ensures.by_index in
    ap rows (opened rs c.copy_within.new.self c.args.slot n c.args.it c.requires.room c.requires.within c.copy_within.ensures.len moved.1 moved.0) ∙ map_inserted row (take n rs) c.args.slot c.args.it
