use Rattle.flat.proofs.Tables.{key_records}
use Rattle.flat.proofs.FlatListEnds.key_at.Goals as goal

pub returns : goal.returns
returns c = key_records c.args.self.now c.in_use-records.result.now c.args.rank c.in_ok-place.place c.copy_to.result c.args.out.now c.copy_to.new.out
    c.in_use-records.ensures c.in_ok-place.ensures c.copy_to.ensures.few c.copy_to.ensures.size c.copy_to.ensures.copied
