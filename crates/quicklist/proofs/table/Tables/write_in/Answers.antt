use Rattle.std.proofs.Common.{cond, length, set, sym, refl, ap, ◌∙◌, arith}
use Rattle.links.proofs.Tables.{within}
use Rattle.listpack.specs.Packs.{swaps, values_in}
use Rattle.quicklist.specs.Tables.{room, links_of}
use Rattle.quicklist.proofs.Writes.{repacked_refills, repacked_long, values_read}
use Rattle.quicklist.proofs.Refills.{repack_same, repack_linked, told_ok, left_either, refill_relisted}
use Rattle.quicklist.proofs.table.Tables.write_in.Goals as goal
use Rattle.quicklist.proofs.table.Tables.write_in.Goals.{After-is_ok}

pub overflow_sub-spot : goal.overflow_sub-spot
overflow_sub-spot c = (within (room c.args.self.now) (links_of c.args.self.now) c.args.self.now.linked c.args.e c.args.spot.node c.requires.which (omega (arith, c.requires.there))).0

pub returns : goal.returns
returns c =
    let s = c.args.self.now in
    let i = c.args.spot.place in
    let v = c.args.value.now.bytes.now in
    let d = c.index-nodes-spot.result in
    let x = c.replace.ensures in
    let w = within (room s) (links_of s) c.args.self.now.linked c.args.e c.args.spot.node c.requires.which (omega (arith, c.requires.there)) in
    let h = values_read s.nodes.now c.args.spot.node d w.0 w.1 in
    let re = repacked_refills s.nodes.now c.args.spot.node d c.replace.new.self _ w.0 w.1
    (left_either c.replace.result (values_in c.replace.new.self) _ _ x.ok x.err ∙ (λ k. cond (sym c.is_ok.ensures.value k) (set (h k) i v) (h k))) in
    let len = repacked_long s.nodes.now c.args.spot.node d c.replace.new.self in
    record {
      told = told_ok c.replace.result _ _ c.is_ok.ensures.value x.made (omega (arith, c.requires.place, ap length h)) c.args.value.now.short ∙ ap (λ us. swaps us i v) h;
      nodes = refill_relisted s c.args.e c.args.spot.node _ _ c.args.self.now.linked c.requires.which c.requires.there re len _ refl refl refl refl refl;
    }

pub invariant_of-self : goal.invariant_of-self
invariant_of-self c = record { same = repack_same c.args.self.now c.args.e c.args.spot.node c.requires.which c.requires.there c.index-nodes-spot.result c.replace.new.self; linked = repack_linked c.args.self.now c.args.e c.args.spot.node c.requires.which c.requires.there c.index-nodes-spot.result c.replace.new.self }
