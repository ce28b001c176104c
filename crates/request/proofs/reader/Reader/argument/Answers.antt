use Rattle.std.proofs.Common.{sym, refl, subst, ◌∙◌}
use Rattle.wire.proofs.Stops.{passed_on}
use Rattle.wire.specs.Steps.{Stopped, Filled}
use Rattle.wire.proofs.Sets.{front, back}
use Rattle.request.specs.Grammar.{length_line}
use Rattle.request.specs.Steps.{LengthLine, Argument}
use Rattle.request.proofs.Arguments.{front_argument, back_argument, put}
use Rattle.request.proofs.reader.Reader.argument.Goals as goal

pub returns-in_err-size-clause-stuck : goal.returns-in_err-size-clause-stuck
returns-in_err-size-clause-stuck c =
    passed_on _ c.from_residual.result c.from_residual.ensures.1 (front Argument LengthLine _ _ (front_argument _) (subst (λ s. Stopped LengthLine s c.in_err-size.field-0.0) c.rest.ensures c.in_err-size.ensures.stopped))

pub returns-in_err-it-clause-stuck : goal.returns-in_err-it-clause-stuck
returns-in_err-it-clause-stuck c =
    let n = c.in_ok-size.size in
    let told = c.in_ok-size.ensures in
    passed_on _ c.from_residual-in_err-it.result c.from_residual-in_err-it.ensures.1 (back Argument (Filled n) (length_line n) _ _ _ (sym c.rest.ensures ∙ told.passed) (back_argument n _ told.within.1) c.in_err-it.ensures.stopped)

pub returns-clause-put : goal.returns-clause-put
returns-clause-put c =
    let told = c.in_ok-size.ensures in
    put c.args.self.now c.in_ok-size.size c.in_ok-it.it.now c.in_ok-size.after.now c.in_ok-it.rest.now told.within.1 (sym c.rest.ensures ∙ told.passed) c.in_ok-it.ensures.sized c.in_ok-it.ensures.passed _ _ refl refl refl refl
