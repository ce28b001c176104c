use Rattle.std.proofs.Common.{take, sym, ◌∙◌, subst, rules, arith}
use Rattle.std.proofs.lemmas.Iterator.{YieldsList-from_slice, YieldsList-from_take}
use Rattle.std.proofs.lemmas.Iterator.Consumers.{count_from_yields_List}
use Rattle.std.proofs.lemmas.Iterator.Search.{YieldsList-from_take_while}
use Rattle.std.proofs.lemmas.List.Folds.{length-prefix_len}
use borrow.Author.Tests.{tests}
use Rattle.reply.specs.Replies.{longest_text}
use Rattle.wire.proofs.Sizes.{bytes_from}
use Rattle.reply_reader.specs.Steps.{Run}
use Rattle.reply_reader.proofs.LineLemmas.{is_letter, run_of}
use Rattle.reply_reader.proofs.lines.text_size.Goals as goal

pub returns : goal.returns
returns c =
    let s = c.args.bytes.now in
    let size =
    count_from_yields_List _ c.count.result c.count.ensures.ran
    (YieldsList-from_take_while _ is_letter (YieldsList-from_take longest_text (YieldsList-from_slice s cc) (cc)) c.take_while.ensures.closure c.take_while.ensures.done (λ x b q k. search (rules, tests))) in
    subst (Run longest_text s) (sym (size ∙ length-prefix_len is_letter (take longest_text s))) (run_of longest_text s (bytes_from s (λ i. omega (arith, c.type_inv.bytes i))))
