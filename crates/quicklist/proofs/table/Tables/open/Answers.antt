use Rattle.std.proofs.Common.{◌≤◌, length, refl, sym, ◌∙◌, subst, arith, length-set}
use Rattle.links.specs.Links.{from}
use Rattle.records.specs.declared.record.ListRecord.{ListRecord}
use Rattle.quicklist.specs.Chains.{next_in}
use Rattle.quicklist.proofs.Records.{field_read}
use Rattle.quicklist.proofs.Splices.{has_room, open_sound, open_nodes}
use Rattle.quicklist.proofs.table.Tables.open.Goals as goal

pub splice_in-requires : goal.splice_in-requires
splice_in-requires c =
    let s = c.args.self.now in
    let r = has_room s.nodes.now s.lists.now s.free_node c.args.e c.args.p s.linked s.same c.requires.which c.requires.more c.requires.there in
    let same = s.same in
    record {
      some = c.requires.more;
      there = r.free_in;
      before = r.p_in;
      behind = subst (λ a. from a (next_in s.nodes.now) c.args.p ≤ length s.nodes.now) (sym (field_read (λ (x : ListRecord). x.first) s.lists.now c.args.e 0 _ (omega (arith, c.requires.which)))) r.q_in;
    }

pub invariant_of-self : goal.invariant_of-self
invariant_of-self c =
    let s = c.args.self.now in
    let len = c.splice_in.auto.nodes in
    record { same = length-set _ _ _ ∙ s.same ∙ sym len; linked = open_sound s c.args.e c.args.p c.requires.which c.requires.more c.requires.there _ _ _ _ c.args.pack c.splice_in.ensures len }

pub returns : goal.returns
returns c = record { nodes = open_nodes c.args.self.now c.args.e c.args.p c.requires.which c.requires.more c.requires.there _ _ _ _ c.args.pack c.splice_in.ensures c.splice_in.auto.nodes _ refl refl refl refl refl }
