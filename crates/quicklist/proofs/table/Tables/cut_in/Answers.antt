use Rattle.std.proofs.Common.{◌≡◌, false, length, sym, refl, ap, ◌∙◌, subst, arith}
use Rattle.std.specs.List.{remove}
use Rattle.std.proofs.lemmas.Bool.Decides.{not_from_Decides}
use Rattle.links.specs.Links.{tally}
use Rattle.links.proofs.Tables.{within}
use Rattle.quicklist.specs.Tables.{room, links_of, values_at, Refilled, Relisted}
use Rattle.quicklist.proofs.Writes.{repacked, repacked_refills, repacked_long, values_read}
use Rattle.quicklist.proofs.Refills.{repack_same, repack_linked, refill_relisted, refill_then, refill_numbers, same_left, same_right, node_kept, node_gone}
use Rattle.quicklist.proofs.table.Tables.cut_in.Goals as goal
use Rattle.quicklist.proofs.table.Tables.cut_in.Goals.{After-unwrap}

pub overflow_sub-spot : goal.overflow_sub-spot
overflow_sub-spot c = (within (room c.args.self.now) (links_of c.args.self.now) c.args.self.now.linked c.args.e c.args.spot.node c.requires.which (omega (arith, c.requires.there))).0

-- what the removal leaves of the node
left : (c : After-unwrap) → Refilled c.args.self.now.nodes.now (repacked c.args.self.now.nodes.now c.args.spot.node c.index-nodes-spot.result c.remove.new.self) c.args.spot.node (remove (values_at c.args.self.now.nodes.now c.args.spot.node) c.args.spot.place)
left c =
    let s = c.args.self.now in
    let w = within (room s) (links_of s) c.args.self.now.linked c.args.e c.args.spot.node c.requires.which (omega (arith, c.requires.there)) in
    let removed = rw c.unwrap.ensures at c.remove.ensures.ok in
    repacked_refills s.nodes.now c.args.spot.node c.index-nodes-spot.result c.remove.new.self _ w.0 w.1
    (removed ∙ ap (λ vs. remove vs c.args.spot.place) (values_read s.nodes.now c.args.spot.node c.index-nodes-spot.result w.0 w.1))

pub holds_nothing-requires-clause-some : goal.holds_nothing-requires-clause-some
holds_nothing-requires-clause-some c = (within (room c.args.self.now) (links_of c.args.self.now) c.args.self.now.linked c.args.e c.args.spot.node c.requires.which (omega (arith, c.requires.there))).0

pub close-requires : goal.close-requires
close-requires c =
    let s = c.args.self.now in
    let re = left (goal.at.close-requires c).After-unwrap in
    let len = repacked_long s.nodes.now c.args.spot.node c.index-nodes-spot.result c.remove.new.self in
    record {
      which = omega (arith, c.requires.which, len);
      there = omega (arith, c.requires.there, ap (tally c.args.spot.node) (refill_numbers s c.args.e c.args.spot.node _ _ c.args.self.now.linked c.requires.which c.requires.there re len c.args.e));
    }

pub returns-then-holds_nothing : goal.returns-then-holds_nothing
returns-then-holds_nothing c =
    let s = c.args.self.now in
    let re = left (goal.at.returns-then-holds_nothing c).After-unwrap in
    let len = repacked_long s.nodes.now c.args.spot.node c.index-nodes-spot.result c.remove.new.self in
    let us = remove (values_at s.nodes.now c.args.spot.node) c.args.spot.place in
    let none : length us ≡ 0 = sym (ap length re.here) ∙ c.if-holds_nothing.ensures.0 refl in
    record {
      nodes = λ ls rs is. refill_then s c.args.e c.args.spot.node _ _ c.args.self.now.linked c.requires.which c.requires.there re len _ refl refl refl refl refl _ _
          (subst (Relisted _ c.close.new.self c.args.e)
          (node_gone us _ _ _ _ none
          (same_left s c.args.e c.args.spot.node _ _ c.args.self.now.linked c.requires.which c.requires.there re len ls rs is)
          (same_right s c.args.e c.args.spot.node _ _ c.args.self.now.linked c.requires.which c.requires.there re len ls rs is))
          (c.close.ensures.nodes ls rs
          (refill_numbers s c.args.e c.args.spot.node _ _ c.args.self.now.linked c.requires.which c.requires.there re len c.args.e ∙ is)));
    }

pub returns-else-holds_nothing : goal.returns-else-holds_nothing
returns-else-holds_nothing c =
    let s = c.args.self.now in
    let re = left (goal.at.returns-else-holds_nothing c).After-unwrap in
    let len = repacked_long s.nodes.now c.args.spot.node c.index-nodes-spot.result c.remove.new.self in
    let us = remove (values_at s.nodes.now c.args.spot.node) c.args.spot.place in
    let some : length us ≡ 0 → ⊥ = λ z. not_from_Decides false c.if-holds_nothing.ensures refl (ap length re.here ∙ z) in
    record {
      nodes = λ ls rs is. subst (Relisted s _ c.args.e) (node_kept us _ _ some)
          (refill_relisted s c.args.e c.args.spot.node _ _ c.args.self.now.linked c.requires.which c.requires.there re len _ refl refl refl refl refl ls rs is);
    }

pub invariant_of-self : goal.invariant_of-self
invariant_of-self c = record { same = repack_same c.args.self.now c.args.e c.args.spot.node c.requires.which c.requires.there c.index-nodes-spot.result c.remove.new.self; linked = repack_linked c.args.self.now c.args.e c.args.spot.node c.requires.which c.requires.there c.index-nodes-spot.result c.remove.new.self }
