use Rattle.std.proofs.Common.{refl, rules}
use Rattle.std.proofs.lemmas.Result.{IfOk-weaker}
use Rattle.wire.proofs.Stops.{ok_from_front, seen_from_front}
use Rattle.request.specs.Steps.{Requests}
use Rattle.request.proofs.Findings.{keeps, correct}
use Rattle.request.proofs.read.Goals as goal

pub returns-clause-correct : goal.returns-clause-correct
returns-clause-correct c =
    correct _ _ refl c.map_err.result
    (ok_from_front _ c.request.result c.map_err.result _ c.request.ensures.read c.map_err.ensures.cases)
    (seen_from_front Requests c.args.bytes.now c.request.result c.map_err.result _ c.request.ensures.stuck c.map_err.ensures.cases (λ stop e k. search rules) (λ stop e k. search rules))

pub returns-clause-kept : goal.returns-clause-kept
returns-clause-kept c = IfOk-weaker c.map_err.result _ _ (keeps _ _ refl) (ok_from_front _ c.request.result c.map_err.result _ c.request.ensures.read c.map_err.ensures.cases)
