use Rattle.std.proofs.Common.{[], ◌∷◌, ap, ◌∙◌, arith}
use Rattle.std.proofs.lemmas.Result.{IfOk-weaker, IfErr-weaker}
use Rattle.wire.proofs.Stops.{passed_on}
use Rattle.wire.specs.Steps.{Stopped, Just, Number}
use Rattle.wire.proofs.Sets.{front, back}
use Rattle.request.specs.Steps.{Line}
use Rattle.request.proofs.Marked.{front_line, back_line}
use Rattle.request.proofs.steps.line.Goals as goal

pub returns-in_err-after-clause-stopped : goal.returns-in_err-after-clause-stopped
returns-in_err-after-clause-stopped c =
    let mark = c.args.mark in
    let low = c.args.bounds.low in
    let high = c.args.bounds.high in
    passed_on _ c.from_residual.result c.from_residual.ensures.1 (front (Line mark low high) (Just (mark ∷ [])) _ _ (front_line mark low high _ (omega arith) (omega arith)) c.in_err-after.ensures.stopped)

pub returns-clause-passed : goal.returns-clause-passed
returns-clause-passed c =
    IfOk-weaker c.number.result _ _ (λ p e. c.in_ok-after.ensures.passed ∙ ap (λ l. c.args.mark ∷ l) e) c.number.ensures.passed

pub returns-clause-stopped : goal.returns-clause-stopped
returns-clause-stopped c =
    let mark = c.args.mark in
    let low = c.args.bounds.low in
    let high = c.args.bounds.high in
    IfErr-weaker c.number.result (Stopped (Number low high) c.in_ok-after.after.now) (Stopped (Line mark low high) c.args.bytes.now)
    (λ e s. back (Line mark low high) (Number low high) (mark ∷ []) _ _ e c.in_ok-after.ensures.passed (back_line mark low high _) s)
    c.number.ensures.stopped
