use Rattle.std.proofs.Common.{◌≡◌, Some, None, sym, ap, ◌∙◌, subst}
use Rattle.order.specs.Keys.{key_in}
use Rattle.store.specs.Lists.{at}
use Rattle.store.specs.Answers.{joined}
use Rattle.listpack.specs.Packs.{takes}
use Rattle.nodes.specs.Nodes.{flat, pushed}
use Rattle.nodes.proofs.NodeLaws.{pushed_none, flat_pushed}
use Rattle.quicklist.specs.Store.{lists_of, nodes_in, Placed, Changed}
use Rattle.quicklist.proofs.Finds.{nodes_none, changed_new, changed_here}
use Rattle.quicklist.proofs.Stores.{entered, list_is}
use Rattle.quicklist.proofs.keyed.Quicklist.add_end.Goals as goal
use Rattle.quicklist.proofs.keyed.Quicklist.add_end.Goals.{After-place_of}

elements : (c : After-place_of) → flat (pushed takes c.args.side (nodes_in c.args.self.now.tables (key_in c.args.name)) c.args.value.now.bytes.now) ≡ joined c.args.side (at (lists_of c.args.self.now.tables) (key_in c.args.name)) c.args.value.now.bytes.now
elements c =
    let t = c.args.self.now.tables in
    let k = key_in c.args.name in
    flat_pushed takes c.args.side (nodes_in t k) c.args.value.now.bytes.now ∙ ap (λ vs. joined c.args.side vs c.args.value.now.bytes.now) (list_is t k)

pub returns-in_default : goal.returns-in_default
returns-in_default c =
    let t = c.args.self.now.tables in
    let w = c.args.self.now.whole in
    let k = key_in c.args.name in
    let p : Placed t k None = subst (λ q. Placed t q None) c.as_bytes.ensures.value c.in_default.ensures in
    let d = c.add_new.ensures in
    entered t c.add_new.new.self k _ _
    (subst (Changed t c.add_new.new.self k) (sym (ap (λ ns. pushed takes c.args.side ns c.args.value.now.bytes.now) (nodes_none t w k p) ∙ pushed_none takes c.args.side c.args.value.now.bytes.now)) (changed_new t w k p c.add_new.new.self _ _ d.place d.free d.booked))
    (elements (goal.at.returns-in_default c).After-place_of)

pub returns : goal.returns
returns c =
    let t = c.args.self.now.tables in
    let k = key_in c.args.name in
    let p : Placed t k (Some c.in-Some.e) = subst (λ q. Placed t q (Some c.in-Some.e)) c.as_bytes.ensures.value c.in-Some.ensures in
    entered t c.add_end.new.self k _ _ (changed_here t c.args.self.now.whole c.in-Some.e k p c.add_end.new.self (λ ns. pushed takes c.args.side ns c.args.value.now.bytes.now) c.add_end.ensures) (elements (goal.at.returns c).After-place_of)
