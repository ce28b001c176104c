use Rattle.std.proofs.Common.{[], ◌∷◌}
use Rattle.std.proofs.lemmas.Result.{IfErr-weaker}
use Rattle.wire.proofs.Stops.{passed_on}
use Rattle.wire.specs.Steps.{Stopped, Just}
use Rattle.wire.proofs.Sets.{front, front_just, back, back_just}
use Rattle.wire.proofs.steps.pass_both.Goals as goal

pub returns-in_err-rest-clause-stopped : goal.returns-in_err-rest-clause-stopped
returns-in_err-rest-clause-stopped c =
    let a = c.args.a in
    let b = c.args.b in
    passed_on _ c.from_residual.result c.from_residual.ensures.1 (front (Just (a ∷ b ∷ [])) (Just (a ∷ [])) _ _ (front_just (a ∷ []) (b ∷ []) _) c.in_err-rest.ensures.stopped)

pub returns-clause-stopped : goal.returns-clause-stopped
returns-clause-stopped c =
    let a = c.args.a in
    let b = c.args.b in
    IfErr-weaker c.pass-2.result (Stopped (Just (b ∷ [])) c.in_ok-rest.rest.now) (Stopped (Just (a ∷ b ∷ [])) c.args.bytes.now)
    (λ e s. back (Just (a ∷ b ∷ [])) (Just (b ∷ [])) (a ∷ []) _ _ e c.in_ok-rest.ensures.passed (back_just (a ∷ []) (b ∷ []) _) s)
    c.pass-2.ensures.stopped
