use Rattle.std.proofs.Common.{arith}
use Rattle.order.specs.Keys.{key_in}
use Rattle.quicklist.proofs.Wholes.{node_left, list_left, new_within, new_none, created}
use Rattle.quicklist.proofs.table.Tables.add_new.Goals as goal

pub overflow_sub-e : goal.overflow_sub-e
overflow_sub-e c = list_left c.args.self.now c.requires.whole c.requires.more

pub push_in-requires : goal.push_in-requires
push_in-requires c =
    let s = c.args.self.now in
    let w = c.requires.whole in
    record { which = new_within s w c.requires.more; more = node_left s w c.requires.more }

pub bounds-self-e : goal.bounds-self-e
bounds-self-e c = omega (arith, new_within c.args.self.now c.requires.whole c.requires.more, c.push_in.ensures.nodes.lists, c.requires.whole.sized.0)

pub write_record-requires : goal.write_record-requires
write_record-requires c = omega (arith, new_within c.args.self.now c.requires.whole c.requires.more, c.push_in.ensures.nodes.lists, c.requires.whole.sized.0)

pub returns : goal.returns
returns c =
    let s = c.args.self.now in
    record {
      place = new_within s c.requires.whole c.requires.more;
      free = new_none s c.requires.whole c.requires.more;
      booked = created s c.requires.whole c.requires.more c.push_in.new.self c.write_record.new.self (key_in c.args.name) c.args.value.now.bytes.now c.requires.absent c.push_in.ensures.nodes c.push_in.new.self.linked c.write_record.ensures _ _;
    }
