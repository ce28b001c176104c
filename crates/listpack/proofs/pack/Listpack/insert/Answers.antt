use Rattle.std.proofs.Common.{◌≡◌, ◌≤◌, ◌∷◌, leb, length, ap, arith}
use Rattle.std.specs.List.{insert}
use Rattle.listpack.specs.Layout.{most_bytes, total}
use Rattle.listpack.specs.Packs.{takes, values_in}
use Rattle.listpack.proofs.Sizes.{total_insert, total_more}
use Rattle.listpack.proofs.Answers.{made, full}
use Rattle.listpack.proofs.pack.Listpack.insert.Goals as goal
use Rattle.listpack.proofs.pack.Listpack.insert.Goals.{After-put}

-- a value fits beside the others wherever it is put
test : (c : After-put) → takes (values_in c.args.self.now) c.args.value.now ≡ leb (total (insert (values_in c.args.self.now) c.args.index c.args.value.now)) most_bytes
unfolding takes
test c =
    let v = c.args.value.now in
    let vs = values_in c.args.self.now in
    let t : total (v ∷ vs) ≡ total (insert vs c.args.index v) = omega (arith, total_insert vs c.args.index v, total_more v vs) in
    ap (λ n. leb n most_bytes) t

there : (c : After-put) → c.args.index ≤ length (values_in c.args.self.now)
there c = omega arith

pub returns-clause-made : goal.returns-clause-made
returns-clause-made c = let d = (goal.at.returns-clause-made c).After-put in made (there d) c.args.value.now _ _ (test d) c.put.result c.put.ensures.answered

pub returns-clause-full : goal.returns-clause-full
returns-clause-full c = let d = (goal.at.returns-clause-full c).After-put in full (there d) c.args.value.now _ _ (test d) c.put.result c.put.ensures.answered
