use Rattle.quicklist.proofs.Rebooks.{written_over, still, still_there, then_used, then_there, then_room, moved}
use Rattle.std.proofs.Common.{arith}
use Rattle.quicklist.proofs.table.Tables.write_over.Goals as goal

pub replace_in-requires : goal.replace_in-requires
replace_in-requires c = let w = c.requires.whole in record { which = c.requires.which; counted = w.counted c.args.e c.requires.which; there = c.requires.there }

pub returns-then-replace_in : goal.returns-then-replace_in
returns-then-replace_in c =
    written_over c.args.self.now c.replace_in.new.self c.args.e c.args.index c.args.value.now.bytes.now c.requires.whole c.requires.which c.requires.there c.args.value.now.short c.replace_in.new.self.linked c.if-replace_in.ensures.nodes

pub take_out-requires : goal.take_out-requires
take_out-requires c =
    let s = c.args.self.now in
    let r = c.if-replace_in.ensures.nodes in
    let b = still s c.replace_in.new.self c.args.e c.args.index c.args.value.now.bytes.now c.requires.whole c.requires.which c.requires.there c.args.value.now.short c.replace_in.new.self.linked r.0 r.1 r.2 in
    record {
      whole = b.whole;
      which = omega (arith, c.requires.which, b.nodes);
      there = still_there s c.replace_in.new.self c.args.e c.args.index c.args.value.now.bytes.now c.requires.whole c.requires.which c.requires.there c.args.value.now.short c.replace_in.new.self.linked r.0 r.1 r.2;
    }

pub add_before-requires : goal.add_before-requires
add_before-requires c =
    let s = c.args.self.now in
    let r = c.if-replace_in.ensures.nodes in
    let b = still s c.replace_in.new.self c.args.e c.args.index c.args.value.now.bytes.now c.requires.whole c.requires.which c.requires.there c.args.value.now.short c.replace_in.new.self.linked r.0 r.1 r.2 in
    record {
      whole = c.take_out.ensures.whole;
      which = omega (arith, c.requires.which, b.nodes, c.take_out.ensures.nodes);
      used = then_used s c.replace_in.new.self c.args.e c.args.index c.args.value.now.bytes.now c.requires.whole c.requires.which c.requires.there c.args.value.now.short c.replace_in.new.self.linked r.0 r.1 r.2 c.take_out.new.self c.take_out.ensures;
      more = then_room s c.replace_in.new.self c.args.e c.args.index c.args.value.now.bytes.now c.requires.whole c.requires.which c.requires.there c.args.value.now.short c.replace_in.new.self.linked r.0 r.1 r.2 c.take_out.new.self c.take_out.ensures;
      there = then_there s c.replace_in.new.self c.args.e c.args.index c.args.value.now.bytes.now c.requires.whole c.requires.which c.requires.there c.args.value.now.short c.replace_in.new.self.linked r.0 r.1 r.2 c.take_out.new.self c.take_out.ensures;
    }

pub returns : goal.returns
returns c =
    let r = c.if-replace_in.ensures.nodes in
    moved c.args.self.now c.replace_in.new.self c.args.e c.args.index c.args.value.now.bytes.now c.requires.whole c.requires.which c.requires.there c.args.value.now.short c.replace_in.new.self.linked r.0 r.1 r.2
    c.take_out.new.self c.take_out.ensures c.add_before.new.self c.add_before.ensures
