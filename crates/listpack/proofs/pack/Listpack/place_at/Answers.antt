use Rattle.std.proofs.Common.{ap, arith}
use Rattle.std.proofs.lemmas.List.{take_all}
use Rattle.listpack.specs.Layout.{total}
use Rattle.listpack.specs.Packs.{values_in}
use Rattle.listpack.proofs.Sizes.{total_none}
use Rattle.listpack.proofs.pack.Listpack.place_at.Goals as goal

pub returns-then-index-count : goal.returns-then-index-count
returns-then-index-count c =
    let vs = values_in c.args.self.now in
    record { there = omega (arith, ap total (take_all c.args.index vs (omega arith))); below = omega arith }

pub place_from-requires : goal.place_from-requires
place_from-requires c = record { here = omega (arith, total_none); order = omega arith; within = c.requires }
