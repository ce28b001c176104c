use Rattle.std.proofs.Common.{◌++◌, sym, ap, ◌∙◌, append_assoc}
use Rattle.wire.proofs.Stops.{passed_on}
use Rattle.wire.specs.Steps.{crlf, Just, Sized, Filled}
use Rattle.wire.proofs.Sets.{front, back}
use Rattle.wire.proofs.Sizes.{front_filled, back_filled}
use Rattle.wire.proofs.steps.filled.Goals as goal

pub returns-in_err-it-clause-stopped : goal.returns-in_err-it-clause-stopped
returns-in_err-it-clause-stopped c =
    passed_on _ c.from_residual.result c.from_residual.ensures.1 (front (Filled c.args.size) (Sized c.args.size) _ _ (front_filled c.args.size _) c.in_err-it.ensures.stopped)

pub returns-in_err-rest-clause-stopped : goal.returns-in_err-rest-clause-stopped
returns-in_err-rest-clause-stopped c =
    let told = c.in_ok-it.ensures in
    passed_on _ c.from_residual-in_err-rest.result c.from_residual-in_err-rest.ensures.1 (back (Filled c.args.size) (Just crlf) c.in_ok-it.it.now _ _ _ told.passed (back_filled c.args.size c.in_ok-it.it.now _ told.sized) c.in_err-rest.ensures.stopped)

pub returns-clause-passed : goal.returns-clause-passed
returns-clause-passed c =
    let b = c.in_ok-it.it.now in
    c.in_ok-it.ensures.passed ∙ ap (λ l. b ++ l) c.in_ok-rest.ensures.passed ∙ sym (append_assoc b crlf c.in_ok-rest.rest.now)
