use Rattle.std.proofs.Common.{◌∙◌, subst, arith}
use Rattle.std.proofs.lemmas.List.{length-take-le}
use Rattle.request.specs.Grammar.{count_line}
use Rattle.request.specs.Steps.{Stuck, CountLine, Rows, Requests}
use Rattle.wire.proofs.Stops.{passed_on}
use Rattle.wire.proofs.Sets.{front}
use Rattle.request.proofs.Passing.{after}
use Rattle.request.proofs.Rows.{front_request, back_request, told}
use Rattle.request.proofs.reader.Reader.request.Goals as goal

pub returns-in_err-count-clause-stuck : goal.returns-in_err-count-clause-stuck
returns-in_err-count-clause-stuck c =
    passed_on _ c.from_residual.result c.from_residual.ensures.1 (front Requests CountLine _ _ (front_request _) c.in_err-count.ensures.stuck)

pub returns-in_err-arguments-clause-stuck : goal.returns-in_err-arguments-clause-stuck
returns-in_err-arguments-clause-stuck c =
    let n = c.in_ok-count.count in
    let head = c.in_ok-count.ensures in
    let rows : Stuck (Rows n) c.count.new.self c.in_err-arguments.field-0.0 = subst (λ k. Stuck (Rows k) c.count.new.self c.in_err-arguments.field-0.0) (length-take-le n _ (omega (arith, head.within.1))) c.in_err-arguments.ensures.stuck in
    passed_on _ c.from_residual-in_err-arguments.result c.from_residual-in_err-arguments.ensures.1 (after Requests (Rows n) _ _ (count_line n) _ head.passed (back_request n _ head.within) rows)

pub returns-clause-read : goal.returns-clause-read
returns-clause-read c =
    let head = c.in_ok-count.ensures in
    let n = c.in_ok-count.count in
    told _ _ c.arguments.new.self n c.arguments.new.parts _ _ head.within head.passed (c.arguments.auto.parts ∙ length-take-le n _ (omega (arith, head.within.1))) c.in_ok-arguments.ensures.put
