use Rattle.std.proofs.Common.{[], ◌∷◌, sym, ◌∙◌, arith}
use Rattle.std.proofs.lemmas.Result.{IfErr-at_err}
use Rattle.wire.specs.Steps.{Stopped, Just}
use Rattle.wire.proofs.Stops.{passed_on}
use Rattle.wire.proofs.Sets.{missed, found, byte_short, byte_strays}
use Rattle.wire.proofs.steps.pass.Goals as goal

pub returns-in_err-c-clause-stopped : goal.returns-in_err-c-clause-stopped
returns-in_err-c-clause-stopped c =
    let why = Stopped (Just (c.args.b ∷ [])) c.args.bytes.now in
    passed_on _ c.from_residual.result c.from_residual.ensures.1
    (IfErr-at_err why (sym c.ok_or.ensures.value ∙ c.in_err-c.was) (missed c.first.result _ _ _ why c.first.ensures (byte_short c.args.b c.args.bytes.now)))

pub returns-then-c-b-clause-stopped : goal.returns-then-c-b-clause-stopped
returns-then-c-b-clause-stopped c =
    byte_strays c.args.b c.in_ok-c.c c.args.bytes.now c.in_ok-c.rest.now (found c.first.result _ _ _ _ c.first.ensures (sym c.ok_or.ensures.value ∙ c.in_ok-c.was)) (λ e. omega (arith, e, c.if-c-b.true))
