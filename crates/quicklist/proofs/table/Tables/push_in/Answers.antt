use Rattle.std.proofs.Common.{◌≡◌, ℕ, ◌-◌, ◌<◌, ◌≤◌, Bool, true, false, is_ok, List, [], ◌∷◌, ◌++◌, map, length, get_or, sym, refl, ap, ◌∙◌, subst, arith}
use Rattle.std.specs.List.{insert}
use Rattle.links.specs.Links.{tally, last_or}
use Rattle.links.proofs.Paths.{tally_append, tally_head, last_in}
use Rattle.links.proofs.Tables.{within}
use Rattle.store.specs.Lists.{Value}
use Rattle.listpack.specs.Packs.{takes, values_in}
use Rattle.quicklist.specs.declared.table.Tables.{Tables}
use Rattle.quicklist.specs.Tables.{room, links_of, numbers, values_at, Refilled, Relisted}
use Rattle.quicklist.proofs.Writes.{repacked, repacked_refills, repacked_long, values_read}
use Rattle.quicklist.proofs.Refills.{repack_same, repack_linked, told_ok, left_ok, left_err, refill_relisted, refill_then, refill_numbers}
use Rattle.quicklist.proofs.Sides.{Ended, end_none, push_none, ended, end_there, end_inside, still}
use Rattle.quicklist.proofs.table.Tables.push_in.Goals as goal
use Rattle.quicklist.proofs.table.Tables.push_in.Goals.{After-is_ok}

pub open_with-requires : goal.open_with-requires
open_with-requires c = record { which = c.requires.which; more = c.requires.more; there = tally_head 0 (numbers c.args.self.now c.args.e) }

pub returns-then-n-eq0 : goal.returns-then-n-eq0
returns-then-n-eq0 c =
    let s = c.args.self.now in
    let z = end_none s c.args.e c.args.self.now.linked c.requires.which c.args.side (sym c.end_of-n.ensures ∙ c.if-n-eq0.true) in
    record {
      nodes = subst (Relisted s c.open_with.new.self c.args.e) (push_none s c.args.e c.args.self.now.linked c.requires.which c.args.side c.args.value.now.bytes.now z) (c.open_with.ensures.nodes [] [] z refl);
    }

pub end_place-j-requires : goal.end_place-j-requires
end_place-j-requires c =
    let s = c.args.self.now in
    let d = ended s c.args.e c.args.self.now.linked c.requires.which c.args.side c.end_of-n.result c.args.value.now.bytes.now c.end_of-n.ensures (omega (arith, c.if-n-eq0.false)) in
    let w = within (room s) (links_of s) c.args.self.now.linked c.args.e c.end_of-n.result c.requires.which (omega (arith, end_there s c.args.e c.args.self.now.linked c.requires.which c.args.side c.end_of-n.result c.args.value.now.bytes.now d)) in
    record { some = w.0; within = w.1 }

pub bounds-nodes-n : goal.bounds-nodes-n
bounds-nodes-n c =
    let s = c.args.self.now in
    let d = ended s c.args.e c.args.self.now.linked c.requires.which c.args.side c.end_of-n.result c.args.value.now.bytes.now c.end_of-n.ensures (omega (arith, c.if-n-eq0.false)) in
    let w = within (room s) (links_of s) c.args.self.now.linked c.args.e c.end_of-n.result c.requires.which (omega (arith, end_there s c.args.e c.args.self.now.linked c.requires.which c.args.side c.end_of-n.result c.args.value.now.bytes.now d)) in
    omega (arith, w.0, w.1)

-- the end node: where it stands, what it holds, and whether it takes the value
module _ (c : After-is_ok) where
  abbrev s : Tables
  s = c.args.self.now

  abbrev n : ℕ
  n = c.end_of-n.result

  abbrev us : List Value
  us = values_at c.args.self.now.nodes.now c.end_of-n.result

  place : Ended s c.args.e c.args.self.now.linked c.requires.which c.args.side n c.args.value.now.bytes.now
  place = ended s c.args.e c.args.self.now.linked c.requires.which c.args.side n c.args.value.now.bytes.now c.end_of-n.ensures (omega (arith, c.if-n-eq0.false))

  there : 0 < tally n (numbers s c.args.e)
  there = end_there s c.args.e c.args.self.now.linked c.requires.which c.args.side n c.args.value.now.bytes.now place

  inside : (0 < n) × (n ≤ room s)
  inside = within (room s) (links_of s) c.args.self.now.linked c.args.e n c.requires.which (omega (arith, there))

  held : values_in (get_or s.nodes.now (n - 1) c.index-nodes-n.result).pack ≡ us
  held = values_read s.nodes.now n c.index-nodes-n.result inside.0 inside.1

  taken : (b : Bool) → b ≡ is_ok c.insert.result → b ≡ takes us c.args.value.now.bytes.now
  taken b e =
      told_ok c.insert.result b _ e c.insert.ensures.made (omega (arith, ap length held, end_inside c.args.side us c.end_place-j.result c.end_place-j.ensures)) c.args.value.now.short ∙ ap (λ vs. takes vs c.args.value.now.bytes.now) held

  long : length (repacked s.nodes.now n c.index-nodes-n.result c.insert.new.self) ≡ room s
  long = repacked_long s.nodes.now n c.index-nodes-n.result c.insert.new.self

  -- a node that does not take it holds what it held
  same : false ≡ is_ok c.insert.result → Refilled s.nodes.now (repacked s.nodes.now n c.index-nodes-n.result c.insert.new.self) n us
  same e = repacked_refills s.nodes.now n c.index-nodes-n.result c.insert.new.self us inside.0 inside.1 (left_err c.insert.result e c.insert.ensures.err ∙ held)

pub returns-then-is_ok : goal.returns-then-is_ok
returns-then-is_ok c =
    let a = (goal.at.returns-then-is_ok c).After-is_ok in
    let s = c.args.self.now in
    let n = c.end_of-n.result in
    let us = values_at s.nodes.now n in
    let d = place a in
    let ok = sym c.if-is_ok.true ∙ c.is_ok.ensures.value in
    let re = repacked_refills s.nodes.now n c.index-nodes-n.result c.insert.new.self _ (inside a).0 (inside a).1 (left_ok c.insert.result ok c.insert.ensures.ok ∙ ap (λ vs. insert vs c.end_place-j.result c.args.value.now.bytes.now) (held a)) in
    record {
      nodes = subst (Relisted s _ c.args.e)
          (ap (λ j. map (values_at s.nodes.now) d.before ++ insert us j c.args.value.now.bytes.now ∷ map (values_at s.nodes.now) d.behind) c.end_place-j.ensures ∙ d.taken (taken a true ok))
          (refill_relisted s c.args.e n _ _ c.args.self.now.linked c.requires.which (there a) re (long a) _ refl refl refl refl refl d.before d.behind d.is);
    }

pub open_with-requires-2 : goal.open_with-requires-2
open_with-requires-2 c =
    let a = (goal.at.open_with-requires-2 c).After-is_ok in
    let s = c.args.self.now in
    let n = c.end_of-n.result in
    let d = place a in
    let re = same a (sym c.if-is_ok.false ∙ c.is_ok.ensures.value) in
    let len = long a in
    let is = refill_numbers s c.args.e n _ _ c.args.self.now.linked c.requires.which (there a) re len c.args.e ∙ d.cut in
    let q : c.node_before-p.result ≡ last_or 0 d.left = c.node_before-p.ensures ∙ d.past in
    let t : tally c.node_before-p.result (0 ∷ (d.left ++ d.right)) ≡ tally (last_or 0 d.left) (0 ∷ (d.left ++ d.right)) = ap (λ m. tally m (0 ∷ (d.left ++ d.right))) q in
    record {
      which = omega (arith, c.requires.which, len);
      more = c.requires.more;
      there = omega (arith, ap (tally c.node_before-p.result) is, t, last_in 0 d.left, tally_append (last_or 0 d.left) d.left d.right);
    }

pub returns : goal.returns
returns c =
    let a = (goal.at.returns c).After-is_ok in
    let s = c.args.self.now in
    let n = c.end_of-n.result in
    let v = c.args.value.now.bytes.now in
    let d = place a in
    let no = sym c.if-is_ok.false ∙ c.is_ok.ensures.value in
    let re = same a no in
    let is = refill_numbers s c.args.e n _ _ c.args.self.now.linked c.requires.which (there a) re (long a) c.args.e ∙ d.cut in
    let ys = repacked s.nodes.now n c.index-nodes-n.result c.insert.new.self in
    let l = still s c.args.e c.args.self.now.linked c.requires.which ys n re d.left (λ m. omega (arith, ap (tally m) d.cut, tally_append m d.left d.right)) in
    let r = still s c.args.e c.args.self.now.linked c.requires.which ys n re d.right (λ m. omega (arith, ap (tally m) d.cut, tally_append m d.left d.right)) in
    record {
      nodes = refill_then s c.args.e n _ _ c.args.self.now.linked c.requires.which (there a) re (long a) _ refl refl refl refl refl _ _
          (subst (Relisted _ c.open_with-2.new.self c.args.e) ((λ k. l k ++ (v ∷ []) ∷ r k) ∙ d.opened (taken a false no))
          (c.open_with-2.ensures.nodes d.left d.right is (c.node_before-p.ensures ∙ d.past)));
    }

pub invariant_of-self : goal.invariant_of-self
invariant_of-self c =
    let s = c.args.self.now in
    let n = c.end_of-n.result in
    let d = ended s c.args.e s.linked c.requires.which c.args.side n c.args.value.now.bytes.now c.end_of-n.ensures (omega (arith, c.if-n-eq0.false)) in
    let h = end_there s c.args.e s.linked c.requires.which c.args.side n c.args.value.now.bytes.now d in
    record { same = repack_same s c.args.e n c.requires.which h c.index-nodes-n.result c.insert.new.self; linked = repack_linked s c.args.e n c.requires.which h c.index-nodes-n.result c.insert.new.self }
