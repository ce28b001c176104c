use Rattle.std.proofs.Common.{◌≡◌, true, false, [], ◌∷◌, ◌++◌, map, length, take, drop, cond, sym, refl, ap, ◌∙◌, subst, arith}
use Rattle.std.specs.List.{insert}
use Rattle.links.specs.Links.{tally}
use Rattle.links.proofs.Tables.{within}
use Rattle.listpack.specs.Packs.{takes, values_in}
use Rattle.quicklist.specs.Tables.{room, links_of, values_at, Refilled, Relisted}
use Rattle.quicklist.proofs.Writes.{repacked, repacked_refills, repacked_long, values_read}
use Rattle.quicklist.proofs.Refills.{repack_same, repack_linked, told_ok, left_ok, left_err, refill_relisted, refill_then, refill_numbers, put_taken, put_numbers, put_last, put_nodes}
use Rattle.quicklist.proofs.table.Tables.put_in.Goals as goal
use Rattle.quicklist.proofs.table.Tables.put_in.Goals.{Then-is_ok, After-divide-right}

pub overflow_sub-pack : goal.overflow_sub-pack
overflow_sub-pack c = (within (room c.args.self.now) (links_of c.args.self.now) c.args.self.now.linked c.args.e c.args.spot.node c.requires.which (omega (arith, c.requires.there))).0

pub bounds-nodes-spot : goal.bounds-nodes-spot
bounds-nodes-spot c = let w = within (room c.args.self.now) (links_of c.args.self.now) c.args.self.now.linked c.args.e c.args.spot.node c.requires.which (omega (arith, c.requires.there)) in omega (arith, w.0, w.1)

-- where the node takes the value
pub returns-then-is_ok : goal.returns-then-is_ok
returns-then-is_ok c =
    let s = c.args.self.now in
    let n = c.args.spot.node in
    let v = c.args.value.now.bytes.now in
    let us = values_at s.nodes.now n in
    let d = c.index-nodes-spot.result in
    let x = c.insert.ensures in
    let w = within (room s) (links_of s) c.args.self.now.linked c.args.e n c.requires.which (omega (arith, c.requires.there)) in
    let h = values_read s.nodes.now n d w.0 w.1 in
    let ok = sym c.if-is_ok.true ∙ c.is_ok.ensures.value in
    let re = repacked_refills s.nodes.now n d c.insert.new.self _ w.0 w.1 (left_ok c.insert.result ok x.ok ∙ ap (λ vs. insert vs c.args.spot.place v) h) in
    let len = repacked_long s.nodes.now n d c.insert.new.self in
    let t : true ≡ takes us v = told_ok c.insert.result true _ ok x.made (omega (arith, c.requires.place, ap length h)) c.args.value.now.short ∙ ap (λ vs. takes vs v) h in
    record {
      nodes = λ ls rs is. subst (Relisted s _ c.args.e)
          (ap (λ ms. map (values_at s.nodes.now) ls ++ (ms ++ map (values_at s.nodes.now) rs)) (put_taken us c.args.spot.place v t))
          (refill_relisted s c.args.e n _ _ c.args.self.now.linked c.requires.which c.requires.there re len _ refl refl refl refl refl ls rs is);
    }

-- where it does not: what the node held is still there when it is cut, and what the two parts hold then
held : (c : After-divide-right) → values_in c.insert.new.self ≡ values_at c.args.self.now.nodes.now c.args.spot.node
held c =
    let s = c.args.self.now in
    let w = within (room s) (links_of s) c.args.self.now.linked c.args.e c.args.spot.node c.requires.which (omega (arith, c.requires.there)) in
    left_err c.insert.result (sym c.if-is_ok.false ∙ c.is_ok.ensures.value) c.insert.ensures.err ∙ values_read s.nodes.now c.args.spot.node c.index-nodes-spot.result w.0 w.1

left : (c : After-divide-right) → Refilled c.args.self.now.nodes.now (repacked c.args.self.now.nodes.now c.args.spot.node c.index-nodes-spot.result c.divide-right.new.pack) c.args.spot.node
    (cond (takes (take c.args.spot.place (values_at c.args.self.now.nodes.now c.args.spot.node)) c.args.value.now.bytes.now) (take c.args.spot.place (values_at c.args.self.now.nodes.now c.args.spot.node) ++ c.args.value.now.bytes.now ∷ []) (take c.args.spot.place (values_at c.args.self.now.nodes.now c.args.spot.node)))
left c =
    let s = c.args.self.now in
    let j = c.args.spot.place in
    let v = c.args.value.now.bytes.now in
    let w = within (room s) (links_of s) c.args.self.now.linked c.args.e c.args.spot.node c.requires.which (omega (arith, c.requires.there)) in
    repacked_refills s.nodes.now c.args.spot.node c.index-nodes-spot.result c.divide-right.new.pack _ w.0 w.1
    (c.divide-right.ensures.left ∙ ap (λ vs. cond (takes (take j vs) v) (take j vs ++ v ∷ []) (take j vs)) (held c))

right : (c : After-divide-right) → values_in c.divide-right.result ≡ cond (takes (take c.args.spot.place (values_at c.args.self.now.nodes.now c.args.spot.node)) c.args.value.now.bytes.now)
    (drop c.args.spot.place (values_at c.args.self.now.nodes.now c.args.spot.node)) (c.args.value.now.bytes.now ∷ drop c.args.spot.place (values_at c.args.self.now.nodes.now c.args.spot.node))
right c = let j = c.args.spot.place in let v = c.args.value.now.bytes.now in c.divide-right.ensures.right ∙ ap (λ vs. cond (takes (take j vs) v) (drop j vs) (v ∷ drop j vs)) (held c)

full : (c : After-divide-right) → false ≡ takes (values_at c.args.self.now.nodes.now c.args.spot.node) c.args.value.now.bytes.now
full c =
    let s = c.args.self.now in
    let v = c.args.value.now.bytes.now in
    let w = within (room s) (links_of s) c.args.self.now.linked c.args.e c.args.spot.node c.requires.which (omega (arith, c.requires.there)) in
    let h = values_read s.nodes.now c.args.spot.node c.index-nodes-spot.result w.0 w.1 in
    told_ok c.insert.result false _ (sym c.if-is_ok.false ∙ c.is_ok.ensures.value) c.insert.ensures.made (omega (arith, c.requires.place, ap length h)) c.args.value.now.short ∙ ap (λ vs. takes vs v) h

pub open-requires : goal.open-requires
open-requires c =
    let s = c.args.self.now in
    let a = (goal.at.open-requires c).After-divide-right in
    let len = repacked_long s.nodes.now c.args.spot.node c.index-nodes-spot.result c.divide-right.new.pack in
    record {
      which = omega (arith, c.requires.which, len);
      more = c.requires.more;
      there = omega (arith, c.requires.there, ap (tally c.args.spot.node) (refill_numbers s c.args.e c.args.spot.node _ _ c.args.self.now.linked c.requires.which c.requires.there (left a) len c.args.e));
    }

pub returns : goal.returns
returns c =
    let s = c.args.self.now in
    let a = (goal.at.returns c).After-divide-right in
    let len = repacked_long s.nodes.now c.args.spot.node c.index-nodes-spot.result c.divide-right.new.pack in
    record {
      nodes = λ ls rs is. refill_then s c.args.e c.args.spot.node _ _ c.args.self.now.linked c.requires.which c.requires.there (left a) len _ refl refl refl refl refl _ _
          (subst (Relisted _ c.open.new.self c.args.e)
          (put_nodes s c.args.e c.args.spot.node _ c.args.self.now.linked c.requires.which c.requires.there c.args.spot.place c.args.value.now.bytes.now c.divide-right.result (left a) (right a) (full a) len ls rs is)
          (c.open.ensures.nodes (ls ++ c.args.spot.node ∷ []) rs
          (put_numbers s c.args.e c.args.spot.node _ c.args.self.now.linked c.requires.which c.requires.there c.args.spot.place c.args.value.now.bytes.now c.divide-right.result (left a) (right a) (full a) len ls rs is)
          (put_last s c.args.e c.args.spot.node _ c.args.self.now.linked c.requires.which c.requires.there c.args.spot.place c.args.value.now.bytes.now c.divide-right.result (left a) (right a) (full a) len ls rs is)));
    }

pub invariant_of-self : goal.invariant_of-self
invariant_of-self c = record { same = repack_same c.args.self.now c.args.e c.args.spot.node c.requires.which c.requires.there c.index-nodes-spot.result c.insert.new.self; linked = repack_linked c.args.self.now c.args.e c.args.spot.node c.requires.which c.requires.there c.index-nodes-spot.result c.insert.new.self }

pub invariant_of-self-2 : goal.invariant_of-self-2
invariant_of-self-2 c = record { same = repack_same c.args.self.now c.args.e c.args.spot.node c.requires.which c.requires.there c.index-nodes-spot.result c.divide-right.new.pack; linked = repack_linked c.args.self.now c.args.e c.args.spot.node c.requires.which c.requires.there c.index-nodes-spot.result c.divide-right.new.pack }
