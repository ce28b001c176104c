use Rattle.std.proofs.Common.{arith}
use Rattle.records.specs.declared.record.ListRecord.{ListRecord}
use Rattle.quicklist.specs.declared.table.Node.{Node}
use Rattle.quicklist.proofs.Records.{field_read}
use Rattle.quicklist.proofs.Writes.{read}
use Rattle.quicklist.proofs.Walks.{walk_none, walk_within, walk_found, walk_next, walk_ends}
use Rattle.quicklist.proofs.table.Tables.walk_to.Goals as goal

pub loop-init : goal.loop-init
loop-init c = walk_none c.args.self.now c.args.e c.args.index c.args.self.now.linked c.requires.which _ (field_read (λ (r : ListRecord). r.first) c.args.self.now.lists.now c.args.e 0 _ (omega (arith, c.requires.which, c.args.self.now.same))) c.requires.there

pub count_in-here-requires : goal.count_in-here-requires
count_in-here-requires c = let w = walk_within c.args.self.now c.args.e c.args.index c.args.self.now.linked c.requires.which _ _ _ c.loop.invariant in record { some = w.0; within = w.1 }

pub returns-then-place-here : goal.returns-then-place-here
returns-then-place-here c = walk_found c.args.self.now c.args.e c.args.index c.args.self.now.linked c.requires.which _ _ _ c.loop.invariant (omega (arith, c.if-place-here.true, c.count_in-here.ensures))

pub overflow_sub-node : goal.overflow_sub-node
overflow_sub-node c = let w = walk_within c.args.self.now c.args.e c.args.index c.args.self.now.linked c.requires.which _ _ _ c.loop.invariant in omega (arith, w.0)

pub bounds-self-node : goal.bounds-self-node
bounds-self-node c = let w = walk_within c.args.self.now c.args.e c.args.index c.args.self.now.linked c.requires.which _ _ _ c.loop.invariant in omega (arith, w.0, w.1)

pub loop-preserved : goal.loop-preserved
loop-preserved c =
    let w = walk_within c.args.self.now c.args.e c.args.index c.args.self.now.linked c.requires.which _ _ _ c.loop.invariant in
    walk_next c.args.self.now c.args.e c.args.index c.args.self.now.linked c.requires.which _ _ _ c.loop.invariant c.count_in-here.result _ c.count_in-here.ensures (omega (arith, c.if-place-here.false))
    (read (λ (x : Node). x.next) c.args.self.now.nodes.now _ _ 0 (omega (arith, w.0, w.1)))

pub unreachable-requires : goal.unreachable-requires
unreachable-requires c = absurd (walk_ends c.args.self.now c.args.e c.args.index c.args.self.now.linked c.requires.which _ _ _ c.loop.invariant (omega (arith, c.loop-test.false)))
