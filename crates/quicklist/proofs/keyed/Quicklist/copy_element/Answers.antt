use Rattle.std.proofs.Common.{length, Some, sym, ap, subst, arith}
use Rattle.store.specs.Limits.{longest_value}
use Rattle.store.specs.Answers.{Copied}
use Rattle.links.proofs.Tables.{within}
use Rattle.quicklist.specs.Tables.{room, links_of}
use Rattle.quicklist.specs.Store.{Placed}
use Rattle.quicklist.proofs.Finds.{place_there, at_here}
use Rattle.quicklist.proofs.Writes.{values_read}
use Rattle.quicklist.proofs.Places.{located_in, copied_there}
use Rattle.quicklist.proofs.keyed.Quicklist.copy_element.Goals as goal
use Rattle.quicklist.proofs.keyed.Quicklist.copy_element.Goals.{After-unwrap-e}

pub unwrap-e-requires : goal.unwrap-e-requires
unwrap-e-requires c = place_there c.args.self.now.tables c.args.self.now.whole c.args.key.now c.args.index c.place_of.result c.place_of.ensures c.requires

place : (c : After-unwrap-e) → Placed c.args.self.now.tables c.args.key.now (Some c.unwrap-e.result)
place c = rw c.unwrap-e.ensures at c.place_of.ensures

pub locate-spot-requires : goal.locate-spot-requires
locate-spot-requires c =
    let p = (place (goal.at.locate-spot-requires c).After-unwrap-e) in
    let w = c.args.self.now.whole in
    record { which = p.0; counted = w.counted c.unwrap-e.result p.0; there = omega (arith, c.requires, ap length (at_here c.args.self.now.tables w c.unwrap-e.result c.args.key.now p)) }

pub overflow_sub-spot : goal.overflow_sub-spot
overflow_sub-spot c =
    let s = c.args.self.now.tables in
    let w = within (room s) (links_of s) c.args.self.now.whole.linked c.unwrap-e.result c.locate-spot.result.node (place (goal.at.overflow_sub-spot c).After-unwrap-e).0 (omega (arith, located_in s c.unwrap-e.result _ _ _ c.locate-spot.ensures)) in
    w.0

pub returns : goal.returns
returns c =
    let s = c.args.self.now.tables in
    let w = within (room s) (links_of s) c.args.self.now.whole.linked c.unwrap-e.result c.locate-spot.result.node (place (goal.at.returns c).After-unwrap-e).0 (omega (arith, located_in s c.unwrap-e.result _ _ _ c.locate-spot.ensures)) in
    let copied = rw c.unwrap.ensures at c.value_at.ensures in
    subst (λ vs. Copied longest_value vs c.args.index c.args.out.now c.value_at.new.out (Some c.unwrap.result))
    (sym (at_here s c.args.self.now.whole c.unwrap-e.result c.args.key.now (place (goal.at.returns c).After-unwrap-e)))
    (copied_there s c.unwrap-e.result _ _ _ c.locate-spot.ensures _ _ _
    (subst (λ vs. Copied longest_value vs c.locate-spot.result.place c.args.out.now c.value_at.new.out (Some c.unwrap.result)) (values_read s.nodes.now c.locate-spot.result.node c.index-nodes-spot.result w.0 w.1) copied))
