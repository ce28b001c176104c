use Rattle.std.proofs.Common.{arith}
use Rattle.quicklist.proofs.Wholes.{old_some, held_some, emptied, shrunk}
use Rattle.quicklist.proofs.table.Tables.take_out.Goals as goal

pub remove_in-requires : goal.remove_in-requires
remove_in-requires c = let w = c.requires.whole in record { which = c.requires.which; counted = w.counted c.args.e c.requires.which; there = c.requires.there }

pub overflow_sub-it : goal.overflow_sub-it
overflow_sub-it c = old_some c.args.self.now c.remove_in.new.self c.remove_in.new.self c.args.e c.args.index c.requires.whole c.requires.which c.requires.there c.remove_in.ensures.nodes c.remove_in.new.self.linked

pub overflow_sub-it-2 : goal.overflow_sub-it-2
overflow_sub-it-2 c = old_some c.args.self.now c.remove_in.new.self c.remove_in.new.self c.args.e c.args.index c.requires.whole c.requires.which c.requires.there c.remove_in.ensures.nodes c.remove_in.new.self.linked

pub overflow_sub-self : goal.overflow_sub-self
overflow_sub-self c =
    let h = held_some c.args.self.now c.remove_in.new.self c.remove_in.new.self c.args.e c.args.index c.requires.whole c.requires.which c.requires.there c.remove_in.ensures.nodes c.remove_in.new.self.linked in
    omega (arith, h, c.write_record.ensures.held)

pub overflow_sub-self-2 : goal.overflow_sub-self-2
overflow_sub-self-2 c =
    let h = held_some c.args.self.now c.remove_in.new.self c.remove_in.new.self c.args.e c.args.index c.requires.whole c.requires.which c.requires.there c.remove_in.ensures.nodes c.remove_in.new.self.linked in
    omega (arith, h, c.write_record-2.ensures.held)

pub returns-then-it-eq0 : goal.returns-then-it-eq0
returns-then-it-eq0 c =
    emptied c.args.self.now c.remove_in.new.self c.write_record.new.self c.args.e c.args.index c.requires.whole c.requires.which c.requires.there c.remove_in.ensures.nodes c.remove_in.new.self.linked
    c.if-it-eq0.true c.write_record.ensures _ c.number_at-self.ensures _ _

pub returns : goal.returns
returns c =
    shrunk c.args.self.now c.remove_in.new.self c.write_record-2.new.self c.args.e c.args.index c.requires.whole c.requires.which c.requires.there c.remove_in.ensures.nodes c.remove_in.new.self.linked
    c.if-it-eq0.false c.write_record-2.ensures _ _
