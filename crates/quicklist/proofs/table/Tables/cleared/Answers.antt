use Rattle.std.proofs.Common.{◌≡◌, length, sym, refl, ◌∙◌, arith}
use Rattle.quicklist.proofs.Clearings.{cleared_linked, cleared_whole}
use Rattle.quicklist.proofs.table.Tables.cleared.Goals as goal
use Rattle.quicklist.proofs.table.Tables.cleared.Goals.{After-thread_lists}

same : (c : After-thread_lists) → length c.thread_lists.new.lists ≡ length c.thread_nodes.new.nodes
same c = c.thread_lists.auto.lists ∙ c.requires.same ∙ sym c.thread_nodes.auto.nodes

pub invariant_of-result : goal.invariant_of-result
invariant_of-result c =
    let s = same (goal.at.invariant_of-result c).After-thread_lists in
    record { same = s; linked = cleared_linked _ _ c.thread_nodes.ensures c.thread_lists.ensures s }

pub returns-clause-whole : goal.returns-clause-whole
returns-clause-whole c =
    let n = c.thread_nodes.auto.nodes in
    cleared_whole _ c.thread_nodes.ensures c.thread_lists.ensures (omega (arith, n, c.requires.some)) (omega (arith, n, c.requires.few)) (same (goal.at.returns-clause-whole c).After-thread_lists) refl
