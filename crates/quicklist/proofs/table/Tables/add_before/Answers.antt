use Rattle.std.proofs.Common.{length, ap, ◌∙◌, arith}
use Rattle.std.proofs.lemmas.List.Edits.{length-insert}
use Rattle.listpack.specs.Packs.{takes}
use Rattle.listpack.proofs.Sizes.{lone}
use Rattle.nodes.specs.Nodes.{flat, added}
use Rattle.nodes.proofs.NodeLaws.{flat_added, filled_added}
use Rattle.quicklist.specs.Tables.{nodes_of}
use Rattle.quicklist.proofs.Wholes.{blank, node_left, it_small, loaded_filled, grown}
use Rattle.quicklist.proofs.table.Tables.add_before.Goals as goal

pub insert_in-requires : goal.insert_in-requires
insert_in-requires c =
    let w = c.requires.whole in
    record {
      which = c.requires.which;
      more = node_left c.args.self.now w c.requires.more;
      used = c.requires.used;
      counted = w.counted c.args.e c.requires.which;
      there = c.requires.there;
    }

pub overflow_add-it : goal.overflow_add-it
overflow_add-it c =
    let s = c.args.self.now in
    record { fits = omega (arith, it_small s c.insert_in.new.self c.args.e (added takes (nodes_of s c.args.e) c.args.index c.args.value.now.bytes.now) blank c.requires.whole c.requires.which c.insert_in.ensures.nodes) }

pub returns : goal.returns
returns c =
    let s = c.args.self.now in
    let ns = nodes_of s c.args.e in
    let v = c.args.value.now.bytes.now in
    grown s c.insert_in.new.self c.args.e _ _ c.requires.whole c.requires.which c.insert_in.ensures.nodes c.write_record.new.self c.requires.used c.insert_in.new.self.linked
    (filled_added takes ns c.args.index v (lone v c.args.value.now.short) (loaded_filled s c.requires.whole c.args.e c.requires.which)) c.requires.more c.write_record.ensures
    (ap length (flat_added takes ns c.args.index v c.requires.there) ∙ length-insert (flat ns) c.args.index v c.requires.there) _ _
