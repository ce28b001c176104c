use Rattle.std.proofs.Common.{refl, sym, ◌∙◌, length-set}
use Rattle.quicklist.proofs.Splices.{inside, close_sound, close_nodes}
use Rattle.quicklist.proofs.table.Tables.close.Goals as goal

pub splice_out-requires : goal.splice_out-requires
splice_out-requires c = let i = inside c.args.self.now c.args.e c.args.n c.requires.which c.requires.there in record { some = i.some; there = i.within; before = i.prev; behind = i.next }

pub invariant_of-self : goal.invariant_of-self
invariant_of-self c =
    let s = c.args.self.now in
    let len = c.splice_out.auto.nodes in
    record { same = length-set _ _ _ ∙ s.same ∙ sym len; linked = close_sound s c.args.e c.args.n c.requires.which c.requires.there _ _ _ _ c.splice_out.ensures len }

pub returns : goal.returns
returns c = record { nodes = close_nodes c.args.self.now c.args.e c.args.n c.requires.which c.requires.there _ _ _ _ c.splice_out.ensures c.splice_out.auto.nodes _ refl refl refl refl refl }
