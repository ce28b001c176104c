use Rattle.std.proofs.Common.{arith}
use Rattle.listpack.proofs.Contents.{size_held}
use Rattle.listpack.proofs.PackLaws.{held_fits}
use Rattle.listpack.proofs.pack.Listpack.size.Goals as goal

pub returns : goal.returns
returns c =
    let s = c.args.self.now in
    let e = size_held s in
    record { some = omega (arith, c.from_le_bytes.ensures, e); most = omega (arith, c.from_le_bytes.ensures, e, held_fits s); said = omega (arith, c.from_le_bytes.ensures, e) }
