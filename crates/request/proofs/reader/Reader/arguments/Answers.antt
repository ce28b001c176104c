use Rattle.std.proofs.Common.{◌≡◌, length, refl, subst, arith}
use Rattle.wire.proofs.Stops.{passed_on}
use Rattle.request.proofs.Rows.{Sofar, none_yet, stuck, one_more, put_all}
use Rattle.request.proofs.reader.Reader.arguments.Goals as goal

pub loop-part-init : goal.loop-part-init
loop-part-init c = none_yet c.args.self.now (length c.args.parts.now) c.args.parts.now refl

pub loop-part-preserved : goal.loop-part-preserved
loop-part-preserved c = one_more _ _ (length c.args.parts.now) c.loop-part.part-index c.loop-part.part-items c.loop-part.invariant c.loop-part-test.true _ c.in_ok-part.field-0 c.in_ok-part.ensures.put

pub returns-in_err-part-clause-stuck : goal.returns-in_err-part-clause-stuck
returns-in_err-part-clause-stuck c =
    passed_on _ c.from_residual.result c.from_residual.ensures.1 (stuck _ _ (length c.args.parts.now) c.loop-part.part-index c.loop-part.part-items c.loop-part.invariant c.loop-part-test.true _ c.in_err-part.ensures.stuck)

pub returns-clause-put : goal.returns-clause-put
returns-clause-put c =
    let n = length c.args.parts.now in
    let all : c.loop-part.part-index ≡ n = omega arith in
    put_all _ _ n c.loop-part.part-items (subst (λ k. Sofar c.args.self.now c.loop-part.self n k c.loop-part.part-items) all c.loop-part.invariant)
