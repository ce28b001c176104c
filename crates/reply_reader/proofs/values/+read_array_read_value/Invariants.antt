use Rattle.std.proofs.Common.{◌+◌, ◌-◌, ◌*◌}
use Rattle.reply_reader.proofs.Rows.{Sofar}
use Rattle.reply_reader.proofs.values.+read_array_read_value.Given as goal

abbrev pub decreases-read_array : goal.decreases-read_array
decreases-read_array l = 2 * l.depth + 1

abbrev pub decreases-read_value : goal.decreases-read_value
decreases-read_value l = 2 * l.depth

abbrev pub invariant-read_array-loop : goal.invariant-read_array-loop
invariant-read_array-loop l = Sofar l.depth l.n l.start l.rest (l.n - l.counter)
