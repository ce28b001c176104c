use Rattle.std.proofs.Common.{◌∷◌, ◌++◌, decimal, sym, refl, ap, ◌∙◌, subst, append_assoc, arith}
use Rattle.reply.specs.Replies.{bulk, longest_bulk}
use Rattle.wire.proofs.Stops.{passed_on_by_cases}
use Rattle.wire.specs.Steps.{crlf, Filled}
use Rattle.reply_reader.specs.Steps.{After, Heads, Head}
use Rattle.wire.proofs.Sets.{front, back}
use Rattle.reply_reader.proofs.Marks.{front_bulk, back_bulk}
use Rattle.reply_reader.proofs.values.read_bulk.Goals as goal

pub returns-in_err-size : goal.returns-in_err-size
returns-in_err-size c =
    λ d. passed_on_by_cases _ _ c.from_residual.result c.from_residual.ensures.1 (front (After 36 d) (Heads 0 longest_bulk) _ _ (front_bulk d _) c.in_err-size.ensures.stopped)

pub returns-in_err-it : goal.returns-in_err-it
returns-in_err-it c =
    let n = c.in-Some.n in
    let told = subst (λ o. Head 0 longest_bulk c.args.bytes.now o c.in_ok-size.after.now) c.in-Some.is c.in_ok-size.ensures.passed in
    λ d. passed_on_by_cases _ _ c.from_residual-in_err-it.result c.from_residual-in_err-it.ensures.1 (back (After 36 d) (Filled n) (decimal n ++ crlf) _ _ _ told.1 (back_bulk d n _ told.0.1) c.in_err-it.ensures.stopped)

pub returns : goal.returns
returns c =
    let n = c.in-Some.n in
    let told = subst (λ o. Head 0 longest_bulk c.args.bytes.now o c.in_ok-size.after.now) c.in-Some.is c.in_ok-size.ensures.passed in
    let body = c.in_ok-it.ensures in
    let b = c.in_ok-it.it.now in
    let rest = c.in_ok-it.rest.now in
    λ d. (
      bulk b,
      (omega (arith, body.sized.0, told.0.1), body.sized.1),
      refl,
      ap (λ l. 36 ∷ l) (told.1 ∙ ap (λ l. (decimal n ++ crlf) ++ l) body.passed ∙ sym (append_assoc (decimal n ++ crlf) (b ++ crlf) rest) ∙ ap (λ k. ((decimal k ++ crlf) ++ (b ++ crlf)) ++ rest) (sym body.sized.0)),
    )
