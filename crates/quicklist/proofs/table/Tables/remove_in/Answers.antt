use Rattle.std.proofs.Common.{subst}
use Rattle.quicklist.specs.Tables.{Relisted}
use Rattle.quicklist.proofs.Places.{located_in, cut_there}
use Rattle.quicklist.proofs.table.Tables.remove_in.Goals as goal

pub cut_in-requires : goal.cut_in-requires
cut_in-requires c =
    let f = c.locate-spot.ensures in
    record { which = c.requires.which; there = located_in c.args.self.now c.args.e _ _ _ f; place = f.inside }

pub returns : goal.returns
returns c =
    let s = c.args.self.now in
    let f = c.locate-spot.ensures in
    record {
      nodes = subst (Relisted s c.cut_in.new.self c.args.e) (cut_there s c.args.e _ _ _ f) (c.cut_in.ensures.nodes f.before f.behind f.is);
    }
