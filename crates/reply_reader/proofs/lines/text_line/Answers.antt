use Rattle.std.proofs.Common.{◌++◌, sym, ap, ◌∙◌, append_assoc}
use Rattle.wire.proofs.Stops.{passed_on}
use Rattle.wire.specs.Steps.{crlf, Just}
use Rattle.reply_reader.specs.Steps.{Texts}
use Rattle.wire.proofs.Sets.{back}
use Rattle.reply_reader.proofs.LineLemmas.{run_is, run_parts, back_text}
use Rattle.reply_reader.proofs.lines.text_line.Goals as goal

pub returns-in_err-rest-clause-stopped : goal.returns-in_err-rest-clause-stopped
returns-in_err-rest-clause-stopped c =
    let s = c.args.bytes.now in
    let u = c.split_at.result.0.now in
    let v = c.split_at.result.1.now in
    let k = c.text_size.result in
    let h = c.text_size.ensures in
    let cut = c.split_at.ensures in
    passed_on _ c.from_residual.result c.from_residual.ensures.1 (back Texts (Just crlf) u v s _ (run_parts s u v k h cut.front cut.back) (back_text s u v k h cut.front cut.back) c.in_err-rest.ensures.stopped)

pub returns-clause-text : goal.returns-clause-text
returns-clause-text c = run_is c.args.bytes.now c.split_at.result.0.now c.split_at.result.1.now c.text_size.result c.text_size.ensures c.split_at.ensures.front c.split_at.ensures.back

pub returns-clause-passed : goal.returns-clause-passed
returns-clause-passed c =
    let s = c.args.bytes.now in
    let u = c.split_at.result.0.now in
    let v = c.split_at.result.1.now in
    let cut = c.split_at.ensures in
    run_parts s u v c.text_size.result c.text_size.ensures cut.front cut.back ∙ ap (λ l. u ++ l) c.in_ok-rest.ensures.passed ∙ sym (append_assoc u crlf c.in_ok-rest.rest.now)
