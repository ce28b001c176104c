use Rattle.std.proofs.Common.{length, ap, ◌∙◌, arith}
use Rattle.listpack.specs.Packs.{takes}
use Rattle.nodes.specs.Nodes.{pushed}
use Rattle.nodes.proofs.NodeLaws.{flat_pushed, filled_pushed}
use Rattle.quicklist.specs.Tables.{nodes_of}
use Rattle.quicklist.proofs.Wholes.{blank, node_left, it_small, loaded_filled, grown, joined_long}
use Rattle.quicklist.proofs.table.Tables.add_end.Goals as goal

pub push_in-requires : goal.push_in-requires
push_in-requires c =
    let w = c.requires.whole in
    record { which = c.requires.which; more = node_left c.args.self.now w c.requires.more }

pub overflow_add-it : goal.overflow_add-it
overflow_add-it c =
    let s = c.args.self.now in
    record { fits = omega (arith, it_small s c.push_in.new.self c.args.e (pushed takes c.args.side (nodes_of s c.args.e) c.args.value.now.bytes.now) blank c.requires.whole c.requires.which c.push_in.ensures.nodes) }

pub returns : goal.returns
returns c =
    let s = c.args.self.now in
    let ns = nodes_of s c.args.e in
    let v = c.args.value.now.bytes.now in
    grown s c.push_in.new.self c.args.e _ _ c.requires.whole c.requires.which c.push_in.ensures.nodes c.write_record.new.self c.requires.used c.push_in.new.self.linked
    (filled_pushed takes c.args.side ns v (loaded_filled s c.requires.whole c.args.e c.requires.which)) c.requires.more c.write_record.ensures
    (ap length (flat_pushed takes c.args.side ns v) ∙ joined_long c.args.side _ v) _ _
