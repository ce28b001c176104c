use Rattle.std.proofs.Common.{◌≡◌, Some, get_or, length, ◌∙◌, subst}
use Rattle.std.proofs.lemmas.List.{get_or_default}
use Rattle.order.specs.Orders.{After, FirstLeast}
use Rattle.order.proofs.least_after.Goals as goal

pub returns-clause-first : goal.returns-clause-first
returns-clause-first g c d l =
    let order = g.T.TotalOrder.order in
    let reads = g.T.TotalOrder.reads in
    let xs = c.args.items.now in
    let e : c.in_ok-get.field-0.now ≡ get_or xs c.args.from d = c.in_ok-get.ensures.lookup.1 ∙ get_or_default xs c.args.from _ d l in
    subst (λ x. FirstLeast order (After order (Some (reads x))) (length xs) (λ j. reads (get_or xs j d)) c.search.result) e (c.search.ensures.first d)
