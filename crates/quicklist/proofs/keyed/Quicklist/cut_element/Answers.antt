use Rattle.std.proofs.Common.{length, Some, ap, ◌∙◌, arith}
use Rattle.std.specs.List.{remove}
use Rattle.nodes.specs.Nodes.{cut}
use Rattle.nodes.proofs.NodeLaws.{flat_cut}
use Rattle.quicklist.specs.Store.{nodes_in, Placed}
use Rattle.quicklist.proofs.Finds.{place_there, at_here, changed_here}
use Rattle.quicklist.proofs.Stores.{entered, list_is, there_flat}
use Rattle.quicklist.proofs.keyed.Quicklist.cut_element.Goals as goal
use Rattle.quicklist.proofs.keyed.Quicklist.cut_element.Goals.{After-unwrap-e}

pub unwrap-e-requires : goal.unwrap-e-requires
unwrap-e-requires c = place_there c.args.self.now.tables c.args.self.now.whole c.args.key.now c.args.index c.place_of.result c.place_of.ensures c.requires

place : (c : After-unwrap-e) → Placed c.args.self.now.tables c.args.key.now (Some c.unwrap-e.result)
place c = rw c.unwrap-e.ensures at c.place_of.ensures

pub take_out-requires : goal.take_out-requires
take_out-requires c =
    let p = place (goal.at.take_out-requires c).After-unwrap-e in
    record { whole = c.args.self.now.whole; which = p.0; there = omega (arith, c.requires, ap length (at_here c.args.self.now.tables c.args.self.now.whole c.unwrap-e.result c.args.key.now p)) }

pub returns : goal.returns
returns c =
    let t = c.args.self.now.tables in
    let k = c.args.key.now in
    let i = c.args.index in
    entered t c.take_out.new.self k _ _
    (changed_here t c.args.self.now.whole c.unwrap-e.result k (place (goal.at.returns c).After-unwrap-e) c.take_out.new.self (λ ns. cut ns i) c.take_out.ensures)
    (flat_cut (nodes_in t k) i (there_flat t k i c.requires) ∙ ap (λ vs. remove vs i) (list_is t k))
