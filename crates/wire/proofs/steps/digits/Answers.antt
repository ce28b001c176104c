use Rattle.std.proofs.Common.{◌+◌, ◌*◌, ◌<◌, ◌≤◌, ◌++◌, sym, ap, ◌∙◌, arith}
use Rattle.std.proofs.lemmas.Fmt.{decimal_digit}
use Rattle.std.proofs.lemmas.Result.{IfErr-at_err}
use Rattle.wire.specs.Steps.{Stopped, Number}
use Rattle.wire.proofs.Stops.{passed_on}
use Rattle.wire.proofs.Sets.{is_empty, not_empty, missed, found}
use Rattle.wire.proofs.Numbers.{number_short, number_strays, number_zero, reads_more, ends_zero, ends_high, ends_no_digit}
use Rattle.wire.proofs.steps.digits.Goals as goal
use Rattle.wire.proofs.steps.digits.Goals.{then-n-eq0-via-then-n-eq0, then-n-eq0-via-else-n-eq0+then-n-bounds-2}

pub returns-then-is_empty-clause-stopped : goal.returns-then-is_empty-clause-stopped
returns-then-is_empty-clause-stopped c = number_short c.args.bounds.low c.args.bounds.high c.args.bytes.now (omega arith) (omega arith) (is_empty _ c.if-is_empty.ensures)

pub returns-in_err-n-clause-stopped : goal.returns-in_err-n-clause-stopped
returns-in_err-n-clause-stopped c =
    let s = c.args.bytes.now in
    let why = Stopped (Number c.args.bounds.low c.args.bounds.high) s in
    passed_on _ c.from_residual.result c.from_residual.ensures.1
    (IfErr-at_err why (sym c.ok_or.ensures.value ∙ c.in_err-n.was) (missed c.digit.result _ _ _ why c.digit.ensures.none (number_strays c.args.bounds.low c.args.bounds.high s (omega arith) (omega arith) (omega arith) (not_empty _ c.if-is_empty.ensures))))

pub returns-then-n-bounds-clause-stopped : goal.returns-then-n-bounds-clause-stopped
returns-then-n-bounds-clause-stopped c =
    let passed = found c.digit.result _ _ _ _ c.digit.ensures.passed (sym c.ok_or.ensures.value ∙ c.in_ok-n.was) in
    number_zero c.args.bounds.low c.args.bounds.high c.args.bytes.now _ c.in_ok-n.n (omega arith) (omega arith) (omega arith) c.if-n-bounds.true passed

pub loop-d-init : goal.loop-d-init
loop-d-init c =
    let is = sym c.ok_or.ensures.value ∙ c.in_ok-n.was in
    let small : c.in_ok-n.n < 10 = found c.digit.result _ _ (λ p. p.0 < 10) _ c.digit.ensures.small is in
    let passed = found c.digit.result _ _ _ _ c.digit.ensures.passed is in
    ((c.if-n-bounds.false, omega (arith, small)), passed ∙ ap (λ l. l ++ c.in_ok-n.rest.now) (sym (decimal_digit c.in_ok-n.n small)))

pub returns-then-n-eq0-clause-ends : goal.returns-then-n-eq0-clause-ends
returns-then-n-eq0-clause-ends c =
    let high = c.args.bounds.high in
    let told = c.in-Some.ensures in
    elim c.then-n-eq0.branch [
      | then-n-eq0-via-then-n-eq0 w ↦ ends_zero high c.loop-d.n c.loop-d.rest.now (omega arith) w.if-n-eq0.true
      | then-n-eq0-via-else-n-eq0+then-n-bounds-2 w ↦
          ends_high high c.loop-d.n c.in-Some.d c.loop-d.rest.now c.in-Some.after.now (omega arith) c.loop-d.invariant.0.1 told.small (omega (arith, told.small)) told.passed
    ]

pub loop-d-preserved : goal.loop-d-preserved
loop-d-preserved c =
    let told = c.in-Some.ensures in
    let small : c.in-Some.d < 10 = told.small in
    let fits : c.loop-d.n * 10 + c.in-Some.d ≤ c.args.bounds.high = omega arith in
    ((omega arith, fits), reads_more c.loop-d.n c.in-Some.d c.args.bytes.now c.loop-d.rest.now c.in-Some.after.now (omega arith) small (omega arith) c.loop-d.invariant.1 told.passed)

pub returns-clause-ends : goal.returns-clause-ends
returns-clause-ends c = ends_no_digit c.args.bounds.high c.loop-d.n c.loop-d.rest.now (omega arith) c.in_default.ensures.none
