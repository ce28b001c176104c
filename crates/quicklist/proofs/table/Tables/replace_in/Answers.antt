use Rattle.quicklist.proofs.Places.{located_in, replaced_there}
use Rattle.quicklist.proofs.table.Tables.replace_in.Goals as goal

pub write_in-requires : goal.write_in-requires
write_in-requires c =
    let f = c.locate-spot.ensures in
    record { which = c.requires.which; there = located_in c.args.self.now c.args.e _ _ _ f; place = f.inside }

pub returns : goal.returns
returns c =
    record {
      nodes = replaced_there c.args.self.now c.args.e _ _ _ c.locate-spot.ensures c.write_in.new.self c.write_in.result c.args.value.now.bytes.now c.args.value.now.short c.write_in.ensures.told c.write_in.ensures.nodes;
    }
