use Rattle.std.proofs.Common.{length, set, Some, ap, ◌∙◌, arith}
use Rattle.listpack.specs.Packs.{takes, swaps}
use Rattle.nodes.specs.Nodes.{changed}
use Rattle.nodes.proofs.NodeLaws.{flat_changed}
use Rattle.quicklist.specs.Store.{nodes_in, Placed}
use Rattle.quicklist.proofs.Finds.{place_there, at_here, changed_here}
use Rattle.quicklist.proofs.Stores.{entered, list_is, there_flat}
use Rattle.quicklist.proofs.keyed.Quicklist.write_element.Goals as goal
use Rattle.quicklist.proofs.keyed.Quicklist.write_element.Goals.{After-unwrap-e}

pub unwrap-e-requires : goal.unwrap-e-requires
unwrap-e-requires c = place_there c.args.self.now.tables c.args.self.now.whole c.args.key.now c.args.index c.place_of.result c.place_of.ensures c.requires.within

place : (c : After-unwrap-e) → Placed c.args.self.now.tables c.args.key.now (Some c.unwrap-e.result)
place c = rw c.unwrap-e.ensures at c.place_of.ensures

pub write_over-requires : goal.write_over-requires
write_over-requires c =
    let p = place (goal.at.write_over-requires c).After-unwrap-e in
    record { whole = c.args.self.now.whole; which = p.0; there = omega (arith, c.requires.within, ap length (at_here c.args.self.now.tables c.args.self.now.whole c.unwrap-e.result c.args.key.now p)) }

pub returns : goal.returns
returns c =
    let t = c.args.self.now.tables in
    let k = c.args.key.now in
    let i = c.args.index in
    let v = c.args.value.now.bytes.now in
    entered t c.write_over.new.self k _ _
    (changed_here t c.args.self.now.whole c.unwrap-e.result k (place (goal.at.returns c).After-unwrap-e) c.write_over.new.self (λ ns. changed takes swaps ns i v) c.write_over.ensures)
    (flat_changed takes swaps (nodes_in t k) i v (there_flat t k i c.requires.within) ∙ ap (λ vs. set vs i v) (list_is t k))
