use Rattle.std.proofs.Common.{arith}
use Rattle.listpack.proofs.Contents.{count_held}
use Rattle.listpack.proofs.PackLaws.{held_few}
use Rattle.listpack.proofs.pack.Listpack.count.Goals as goal

pub returns : goal.returns
returns c = let s = c.args.self.now in record { value = omega (arith, c.from_le_bytes.ensures, count_held s); few = omega (arith, c.from_le_bytes.ensures, count_held s, held_few s) }
