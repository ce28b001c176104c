use Rattle.std.proofs.Common.{◌≡◌, ◌+◌, ◌<◌, leb, [], ◌∷◌, ◌++◌, length, take, drop, set, sym, ap, ◌∙◌, add-one, arith}
use Rattle.std.proofs.lemmas.List.{set_split}
use Rattle.listpack.specs.Layout.{most_bytes, total}
use Rattle.listpack.specs.Packs.{swaps, values_in}
use Rattle.listpack.specs.Places.{exchanged}
use Rattle.listpack.proofs.Answers.{made, full, ok_as}
use Rattle.listpack.proofs.pack.Listpack.replace.Goals as goal
use Rattle.listpack.proofs.pack.Listpack.replace.Goals.{After-put}

there : (c : After-put) → c.args.index < length (values_in c.args.self.now)
there c = omega arith

-- the value at an index and the others, with another in its place
same : (c : After-put) → exchanged (values_in c.args.self.now) c.args.index (c.args.index + 1) (c.args.value.now ∷ []) ≡ set (values_in c.args.self.now) c.args.index c.args.value.now
same c =
    let v = c.args.value.now in
    let vs = values_in c.args.self.now in
    let i = c.args.index in
    ap (λ j. take i vs ++ v ∷ drop j vs) (add-one i) ∙ sym (set_split vs i v (there c))

test : (c : After-put) → swaps (values_in c.args.self.now) c.args.index c.args.value.now ≡ leb (total (exchanged (values_in c.args.self.now) c.args.index (c.args.index + 1) (c.args.value.now ∷ []))) most_bytes
unfolding swaps
test c = ap (λ ws. leb (total ws) most_bytes) (sym (same c))

pub returns-clause-made : goal.returns-clause-made
returns-clause-made c = let d = (goal.at.returns-clause-made c).After-put in made (there d) c.args.value.now _ _ (test d) c.put.result c.put.ensures.answered

pub returns-clause-full : goal.returns-clause-full
returns-clause-full c = let d = (goal.at.returns-clause-full c).After-put in full (there d) c.args.value.now _ _ (test d) c.put.result c.put.ensures.answered

pub returns-clause-ok : goal.returns-clause-ok
returns-clause-ok c = ok_as _ _ _ c.put.result (same (goal.at.returns-clause-ok c).After-put) c.put.ensures.ok
