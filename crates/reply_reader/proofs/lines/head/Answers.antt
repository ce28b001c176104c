use Rattle.std.proofs.Common.{[], ◌∷◌, refl, arith}
use Rattle.wire.proofs.Stops.{passed_on}
use Rattle.wire.specs.Steps.{crlf, Just, Number}
use Rattle.reply_reader.specs.Steps.{Heads}
use Rattle.wire.proofs.Sets.{front, front_just, back, back_just}
use Rattle.reply_reader.proofs.LineLemmas.{back_nil, back_head}
use Rattle.reply_reader.proofs.lines.head.Goals as goal

pub returns-in_err-one-clause-stopped : goal.returns-in_err-one-clause-stopped
returns-in_err-one-clause-stopped c =
    let low = c.args.bounds.low in
    let high = c.args.bounds.high in
    passed_on _ c.from_residual.result c.from_residual.ensures.1 (back (Heads low high) (Just (49 ∷ crlf)) (45 ∷ []) _ _ _ c.in-Some.ensures.passed (back_nil low high _ (omega arith)) (front (Just (49 ∷ crlf)) (Just (49 ∷ [])) _ _ (front_just (49 ∷ []) crlf _) c.in_err-one.ensures.stopped))

pub returns-in_err-rest-clause-stopped : goal.returns-in_err-rest-clause-stopped
returns-in_err-rest-clause-stopped c =
    let low = c.args.bounds.low in
    let high = c.args.bounds.high in
    passed_on _ c.from_residual-in_err-rest.result c.from_residual-in_err-rest.ensures.1 (back (Heads low high) (Just (49 ∷ crlf)) (45 ∷ []) _ _ _ c.in-Some.ensures.passed (back_nil low high _ (omega arith)) (back (Just (49 ∷ crlf)) (Just crlf) (49 ∷ []) _ _ _ c.in_ok-one.ensures.passed (back_just (49 ∷ []) crlf _) c.in_err-rest.ensures.stopped))

pub returns-in_err-n-clause-stopped : goal.returns-in_err-n-clause-stopped
returns-in_err-n-clause-stopped c =
    let low = c.args.bounds.low in
    let high = c.args.bounds.high in
    passed_on _ c.from_residual-in_err-n.result c.from_residual-in_err-n.ensures.1 (back (Heads low high) (Number low high) [] _ _ _ refl (back_head low high _ c.in_default.ensures.none) c.in_err-n.ensures.stopped)
