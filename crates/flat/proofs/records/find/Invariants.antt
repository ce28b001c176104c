use Rattle.std.proofs.Common.{◌≡◌, ◌+◌, drop}
use Rattle.store.specs.Rows.{spot}
use Rattle.flat.specs.Records.{rows}
use Rattle.flat.proofs.records.find.Given as goal

abbrev pub invariant-loop-i : goal.invariant-loop-i
invariant-loop-i l = l.i + spot l.key l.left (rows (drop l.i l.records)) ≡ spot l.key l.index (rows l.records)
