use Rattle.std.proofs.Common.{◌∙◌, rules}
use Rattle.std.proofs.lemmas.Iterator.{YieldsList-from_slice}
use Rattle.std.proofs.lemmas.Iterator.Consumers.{YieldsList-from_filter, count_from_yields_List}
use borrow.Author.Tests.{tests}
use Rattle.flat.proofs.Scans.{is_of, of_key, told_of}
use Rattle.flat.proofs.records.count.Goals as goal

pub returns : goal.returns
returns c =
    let k = c.args.key.now in
    let rs = c.args.records.now in
    count_from_yields_List _ c.count.result c.count.ensures.ran
    (YieldsList-from_filter _ (is_of k) (YieldsList-from_slice rs cc) c.filter.ensures.closure (λ x b q h. (search (rules, tests), told_of k x.now b (search (rules, tests))))) ∙ of_key k rs
