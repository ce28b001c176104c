use Rattle.std.proofs.Common.{◌≡◌, length, Some, None, sym, ap, ◌∙◌, subst, arith}
use Rattle.std.specs.List.{insert}
use Rattle.order.specs.Keys.{key_in}
use Rattle.store.specs.Lists.{at}
use Rattle.listpack.specs.Packs.{takes}
use Rattle.nodes.specs.Nodes.{flat, added}
use Rattle.nodes.proofs.NodeLaws.{added_none, flat_added}
use Rattle.quicklist.specs.Store.{lists_of, nodes_in, Placed, Changed}
use Rattle.quicklist.proofs.Finds.{nodes_none, at_here, changed_new, changed_here}
use Rattle.quicklist.proofs.Stores.{counted, entered, list_is, within_flat}
use Rattle.quicklist.proofs.keyed.Quicklist.add_element.Goals as goal
use Rattle.quicklist.proofs.keyed.Quicklist.add_element.Goals.{After-place_of}

elements : (c : After-place_of) → flat (added takes (nodes_in c.args.self.now.tables (key_in c.args.name)) c.args.index c.args.value.now.bytes.now) ≡ insert (at (lists_of c.args.self.now.tables) (key_in c.args.name)) c.args.index c.args.value.now.bytes.now
elements c =
    let t = c.args.self.now.tables in
    let k = key_in c.args.name in
    flat_added takes (nodes_in t k) c.args.index c.args.value.now.bytes.now (within_flat t k c.args.index c.requires.within) ∙ ap (λ vs. insert vs c.args.index c.args.value.now.bytes.now) (list_is t k)

pub returns-in_default : goal.returns-in_default
returns-in_default c =
    let t = c.args.self.now.tables in
    let w = c.args.self.now.whole in
    let k = key_in c.args.name in
    let p : Placed t k None = subst (λ q. Placed t q None) c.as_bytes.ensures.value c.in_default.ensures in
    let d = c.add_new.ensures in
    entered t c.add_new.new.self k _ _
    (subst (Changed t c.add_new.new.self k) (sym (ap (λ ns. added takes ns c.args.index c.args.value.now.bytes.now) (nodes_none t w k p) ∙ added_none takes c.args.index c.args.value.now.bytes.now)) (changed_new t w k p c.add_new.new.self _ _ d.place d.free d.booked))
    (elements (goal.at.returns-in_default c).After-place_of)

pub add_before-requires : goal.add_before-requires
add_before-requires c =
    let t = c.args.self.now.tables in
    let w = c.args.self.now.whole in
    let k = key_in c.args.name in
    let p : Placed t k (Some c.in-Some.e) = subst (λ q. Placed t q (Some c.in-Some.e)) c.as_bytes.ensures.value c.in-Some.ensures in
    record { whole = w; which = p.0; used = p.2; more = counted c.args.self.now c.requires.room; there = omega (arith, c.requires.within, ap length (at_here t w c.in-Some.e k p)) }

pub returns : goal.returns
returns c =
    let t = c.args.self.now.tables in
    let k = key_in c.args.name in
    let p : Placed t k (Some c.in-Some.e) = subst (λ q. Placed t q (Some c.in-Some.e)) c.as_bytes.ensures.value c.in-Some.ensures in
    entered t c.add_before.new.self k _ _ (changed_here t c.args.self.now.whole c.in-Some.e k p c.add_before.new.self (λ ns. added takes ns c.args.index c.args.value.now.bytes.now) c.add_before.ensures) (elements (goal.at.returns c).After-place_of)
