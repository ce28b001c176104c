use Rattle.std.proofs.Common.{◌+◌, ◌∷◌, arith}
use Rattle.listpack.specs.Layout.{total}
use Rattle.listpack.specs.Packs.{takes, values_in}
use Rattle.listpack.proofs.Sizes.{total_more}
use Rattle.listpack.proofs.Answers.{fits_as}
use Rattle.listpack.proofs.pack.Listpack.takes.Goals as goal

pub returns : goal.returns
unfolding takes
returns c =
    let v = c.args.value.now in
    let vs = values_in c.args.self.now in
    let w = c.in-Some.ensures in
    fits_as v (c.size.result + c.in-Some.n) (total (v ∷ vs)) w.0 (omega (arith, total_more v vs, w.2))
