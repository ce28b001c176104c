use Rattle.std.proofs.Common.{◌++◌, decimal, sym, ap, ◌∙◌, append_assoc, arith}
use Rattle.wire.proofs.Stops.{passed_on}
use Rattle.wire.specs.Steps.{crlf, Just, Number}
use Rattle.wire.proofs.Sets.{back}
use Rattle.wire.proofs.Numbers.{back_number}
use Rattle.wire.proofs.steps.number.Goals as goal

pub returns-in_err-rest-clause-stopped : goal.returns-in_err-rest-clause-stopped
returns-in_err-rest-clause-stopped c =
    let told = c.in_ok-n.ensures in
    let n = c.in_ok-n.n in
    let low = c.args.bounds.low in
    let high = c.args.bounds.high in
    passed_on _ c.from_residual-in_err-rest.result c.from_residual-in_err-rest.ensures.1 (back (Number low high) (Just crlf) (decimal n) _ _ _ told.passed (back_number low high n _ (omega arith) told.within told.ends) c.in_err-rest.ensures.stopped)

pub returns-clause-passed : goal.returns-clause-passed
returns-clause-passed c =
    let n = c.in_ok-n.n in
    c.in_ok-n.ensures.passed ∙ ap (λ l. decimal n ++ l) c.in_ok-rest.ensures.passed ∙ sym (append_assoc (decimal n) crlf c.in_ok-rest.rest.now)
