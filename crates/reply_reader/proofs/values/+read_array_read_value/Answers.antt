use Rattle.std.proofs.Common.{◌≡◌, suc, ◌+◌, ◌-◌, ◌++◌, decimal, sym, ◌∙◌, subst, arith, rules}
use Rattle.reply.specs.Replies.{most_elements}
use Rattle.wire.proofs.Stops.{passed_on_by_cases}
use Rattle.wire.specs.Steps.{crlf, Stopped}
use Rattle.std.proofs.lemmas.Result.{IfErr-at_err}
use Rattle.reply_reader.specs.Reading.{Says}
use Rattle.reply_reader.specs.Steps.{After, Came, Heads, Head, Rows}
use Rattle.wire.proofs.Sets.{front, back, missed, found}
use Rattle.reply_reader.proofs.Marks.{marked, none_yet, other_mark, array_mark, came_text, came_error}
use Rattle.reply_reader.proofs.Rows.{Sofar, none_passed, stuck, one_more, front_array, back_array, no_longer, all_passed}
use Rattle.reply_reader.proofs.values.+read_array_read_value.Goals as goal
use Rattle.reply_reader.proofs.values.+read_array_read_value.Goals.{read_value-in_default-via-in-42+else-depth-gt0, read_value-in_default-via-in_default-1}

pub read_array-returns-in_err-size : goal.read_array-returns-in_err-size
read_array-returns-in_err-size t c =
    passed_on_by_cases _ _ c.from_residual.result c.from_residual.ensures.1 (front (After 42 (suc c.args.depth)) (Heads 0 most_elements) _ _ (front_array c.args.depth _) c.in_err-size.ensures.stopped)

pub read_value-returns-in_err-mark : goal.read_value-returns-in_err-mark
read_value-returns-in_err-mark t c =
    let why = Stopped (Says c.args.depth) c.args.bytes.now in
    passed_on_by_cases _ _ c.from_residual.result c.from_residual.ensures.1
    (IfErr-at_err why (sym c.ok_or.ensures.value ∙ c.in_err-mark.was) (missed c.first.result _ _ _ why c.first.ensures (none_yet c.args.depth c.args.bytes.now)))

pub read_value-returns-in-43 : goal.read_value-returns-in-43
read_value-returns-in-43 t c =
    let told = c.read_text.ensures in
    marked c.args.depth 43 c.in_ok-mark.mark _ _ c.read_text.result (found c.first.result _ _ _ _ c.first.ensures (sym c.ok_or.ensures.value ∙ c.in_ok-mark.was)) c.in-43.is
    (came_text _ c.args.depth c.in_ok-mark.rest.now c.read_text.result (λ t x k. search rules) told.read told.stopped)

pub read_value-returns-in-45 : goal.read_value-returns-in-45
read_value-returns-in-45 t c =
    let told = c.read_text-in-45.ensures in
    marked c.args.depth 45 c.in_ok-mark.mark _ _ c.read_text-in-45.result (found c.first.result _ _ _ _ c.first.ensures (sym c.ok_or.ensures.value ∙ c.in_ok-mark.was)) c.in-45.is
    (came_error _ c.args.depth c.in_ok-mark.rest.now c.read_text-in-45.result (λ t x k. search rules) told.read told.stopped)

pub read_value-returns-in-58 : goal.read_value-returns-in-58
read_value-returns-in-58 t c = marked c.args.depth 58 c.in_ok-mark.mark _ _ c.read_integer.result (found c.first.result _ _ _ _ c.first.ensures (sym c.ok_or.ensures.value ∙ c.in_ok-mark.was)) c.in-58.is (c.read_integer.ensures c.args.depth)

pub read_value-returns-in-36 : goal.read_value-returns-in-36
read_value-returns-in-36 t c = marked c.args.depth 36 c.in_ok-mark.mark _ _ c.read_bulk.result (found c.first.result _ _ _ _ c.first.ensures (sym c.ok_or.ensures.value ∙ c.in_ok-mark.was)) c.in-36.is (c.read_bulk.ensures c.args.depth)

pub read_array-loop-init : goal.read_array-loop-init
read_array-loop-init t c = subst (Sofar c.args.depth c.in-Some.n _ _) (omega arith) (none_passed c.args.depth c.in-Some.n c.in_ok-size.start.now)

pub read_array-returns-in_err-rest : goal.read_array-returns-in_err-rest
read_array-returns-in_err-rest t c =
    let n = c.in-Some.n in
    let told = subst (λ o. Head 0 most_elements c.args.bytes.now o c.in_ok-size.start.now) c.in-Some.is c.in_ok-size.ensures.passed in
    let more : n - c.loop.counter ≡ suc (n - (c.loop.counter + 1)) = omega arith in
    passed_on_by_cases _ _ c.from_residual-in_err-rest.result c.from_residual-in_err-rest.ensures.1 (back (After 42 (suc c.args.depth)) (Rows c.args.depth n) (decimal n ++ crlf) _ _ _ told.1 (back_array c.args.depth n _ told.0.1) (stuck c.args.depth n _ _ (n - c.loop.counter) (n - (c.loop.counter + 1)) c.loop.invariant more _ c.in_err-rest.ensures))

pub read_array-loop-preserved : goal.read_array-loop-preserved
read_array-loop-preserved t c =
    let n = c.in-Some.n in
    let more : n - c.loop.counter ≡ suc (n - (c.loop.counter + 1)) = omega arith in
    let told = c.in_ok-rest.ensures in
    one_more c.args.depth n _ _ (n - c.loop.counter) (n - (c.loop.counter + 1)) c.loop.invariant more told.0 _ told.1 told.3

pub read_array-overflow_sub-span : goal.read_array-overflow_sub-span
read_array-overflow_sub-span t c = no_longer c.args.depth c.in-Some.n _ _ _ c.loop.invariant

pub read_array-returns : goal.read_array-returns
read_array-returns t c =
    let told = subst (λ o. Head 0 most_elements c.args.bytes.now o c.in_ok-size.start.now) c.in-Some.is c.in_ok-size.ensures.passed in
    all_passed c.args.depth c.in-Some.n _ c.args.bytes.now c.in_ok-size.start.now c.loop.rest.now c.loop.invariant (omega arith) told.0.1 told.1

pub read_value-returns-in-42 : goal.read_value-returns-in-42
read_value-returns-in-42 t c =
    let less : suc (c.args.depth - 1) ≡ c.args.depth = omega arith in
    marked c.args.depth 42 c.in_ok-mark.mark _ _ c.read_array.result (found c.first.result _ _ _ _ c.first.ensures (sym c.ok_or.ensures.value ∙ c.in_ok-mark.was)) c.in-42.is (subst (λ d. Came 42 d c.in_ok-mark.rest.now c.read_array.result) less c.read_array.ensures)

pub read_value-returns-in_default : goal.read_value-returns-in_default
read_value-returns-in_default t c =
    let d = c.args.depth in
    let mark = c.in_ok-mark.mark in
    let s = c.args.bytes.now in
    let rest = c.in_ok-mark.rest.now in
    elim c.in_default.branch [
      | read_value-in_default-via-in-42+else-depth-gt0 w ↦ array_mark d mark s rest (found c.first.result _ _ _ _ c.first.ensures (sym c.ok_or.ensures.value ∙ c.in_ok-mark.was)) (omega arith) w.in-42.is
      | read_value-in_default-via-in_default-1 w ↦
          other_mark d mark s rest (found c.first.result _ _ _ _ c.first.ensures (sym c.ok_or.ensures.value ∙ c.in_ok-mark.was)) (λ e. omega arith) (λ e. omega arith) (λ e. omega arith) (λ e. omega arith) (λ e. omega arith)
    ]
