use Rattle.std.proofs.Common.{rules}
use Rattle.std.proofs.lemmas.Result.{IfErr-at_err, MatchResult-weaker}
use Rattle.wire.specs.Steps.{Refused}
use Rattle.wire.proofs.Stops.{passed_on_by_cases, seen_from_front}
use Rattle.reply_reader.specs.Reading.{Says}
use Rattle.reply_reader.proofs.read_within.Goals as goal

pub returns-in_err-found : goal.returns-in_err-found
returns-in_err-found c =
    let d = c.args.depth in
    let s = c.args.bytes.now in
    passed_on_by_cases _ _ c.from_residual.result c.from_residual.ensures.1 (IfErr-at_err (Refused (Says d) s) c.in_err-found.was (seen_from_front (Says d) s c.read_value.result c.map_err.result _ (MatchResult-weaker c.read_value.result c.read_value.ensures (λ f h. tt) (λ e h. h)) c.map_err.ensures.cases (λ stop e k. search rules) (λ stop e k. search rules)))
