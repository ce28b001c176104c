use Rattle.std.proofs.Common.{arith}
use Rattle.listpack.proofs.Splices.{splice_leaves}
use Rattle.listpack.proofs.bytes.splice.Goals as goal

pub returns : goal.returns
returns c =
    splice_leaves c.args.bytes.now c.args.new.now c.args.from c.args.to c.args.end c.requires.order c.requires.within (omega arith) (omega arith)
    c.copy_within.new.self c.copy_from_slice.new.self c.copy_within.ensures.after c.copy_from_slice.ensures.after
