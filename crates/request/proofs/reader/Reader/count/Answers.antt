use Rattle.std.proofs.Common.{sym, refl, subst, ◌∙◌}
use Rattle.wire.proofs.Stops.{passed_on}
use Rattle.wire.specs.Steps.{Stopped}
use Rattle.request.specs.Grammar.{count_line}
use Rattle.request.specs.Steps.{CountLine}
use Rattle.request.proofs.Passing.{moved}
use Rattle.request.proofs.reader.Reader.count.Goals as goal

pub returns-in_err-n-clause-stuck : goal.returns-in_err-n-clause-stuck
returns-in_err-n-clause-stuck c =
    passed_on _ c.from_residual.result c.from_residual.ensures.1 (subst (λ s. Stopped CountLine s c.in_err-n.field-0.0) c.rest.ensures c.in_err-n.ensures.stopped)

pub returns-clause-passed : goal.returns-clause-passed
returns-clause-passed c = moved c.args.self.now (count_line c.in_ok-n.n) c.in_ok-n.rest.now (sym c.rest.ensures ∙ c.in_ok-n.ensures.passed) _ refl refl
