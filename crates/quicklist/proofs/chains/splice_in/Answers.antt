use Rattle.std.proofs.Common.{◌-◌, refl, subst, arith}
use Rattle.quicklist.specs.declared.table.Node.{Node}
use Rattle.quicklist.specs.Chains.{Joined}
use Rattle.quicklist.proofs.Writes.{read, refilled}
use Rattle.quicklist.proofs.chains.splice_in.Goals as goal

pub returns : goal.returns
returns c =
    let xs = c.args.nodes.now in
    let n = c.args.free.now in
    record {
      before = _;
      between = c.tie-halfway.new.nodes;
      first = c.tie-halfway.result.first;
      last = c.tie-halfway.result.last;
      filled = refilled xs n _ c.index-nodes-n.result _ c.requires.some c.requires.there refl refl refl;
      tied = c.tie-halfway.ensures;
      again = subst (Joined _ _ _ _ _ _ _) c.after-q.ensures c.tie-ends.ensures;
      rest = read (λ (x : Node). x.next) xs (n - 1) _ 0 (omega arith);
      same = (refl, refl, refl);
    }
