use Rattle.std.proofs.Common.{get_or, ◌∙◌, arith}
use Rattle.links.proofs.Tables.{within}
use Rattle.records.specs.declared.record.ListRecord.{ListRecord}
use Rattle.quicklist.specs.Tables.{nodes_of, room, links_of}
use Rattle.quicklist.proofs.Records.{field_read}
use Rattle.quicklist.proofs.Wholes.{blank, some_node}
use Rattle.quicklist.proofs.Places.{last_node, in_last}
use Rattle.quicklist.proofs.table.Tables.locate.Goals as goal

pub count_in-requires : goal.count_in-requires
count_in-requires c =
    let s = c.args.self.now in
    let n = (get_or s.lists.now c.args.e blank).last in
    let some = some_node (nodes_of s c.args.e) (omega (arith, c.requires.there)) in
    let d = last_node s c.args.e c.args.self.now.linked c.requires.which some n (field_read (λ (r : ListRecord). r.last) s.lists.now c.args.e 0 blank (omega (arith, c.args.self.now.same, c.requires.which))) in
    let w = within (room s) (links_of s) c.args.self.now.linked c.args.e n c.requires.which (omega (arith, d.there)) in
    record { some = w.0; within = w.1 }

pub overflow_sub-before : goal.overflow_sub-before
overflow_sub-before c =
    let s = c.args.self.now in
    let n = (get_or s.lists.now c.args.e blank).last in
    let some = some_node (nodes_of s c.args.e) (omega (arith, c.requires.there)) in
    let d = last_node s c.args.e c.args.self.now.linked c.requires.which some n (field_read (λ (r : ListRecord). r.last) s.lists.now c.args.e 0 blank (omega (arith, c.args.self.now.same, c.requires.which))) in
    omega (arith, c.count_in.ensures, d.long, field_read (λ (r : ListRecord). r.count) s.lists.now c.args.e 0 blank (omega (arith, c.args.self.now.same, c.requires.which)), c.requires.counted)

pub returns-then-index-before : goal.returns-then-index-before
returns-then-index-before c =
    let s = c.args.self.now in
    let n = (get_or s.lists.now c.args.e blank).last in
    let some = some_node (nodes_of s c.args.e) (omega (arith, c.requires.there)) in
    let d = last_node s c.args.e c.args.self.now.linked c.requires.which some n (field_read (λ (r : ListRecord). r.last) s.lists.now c.args.e 0 blank (omega (arith, c.args.self.now.same, c.requires.which))) in
    in_last s c.args.e c.args.self.now.linked c.requires.which some n d c.args.index c.count_in.result _ c.count_in.ensures
    (field_read (λ (r : ListRecord). r.count) s.lists.now c.args.e 0 blank (omega (arith, c.args.self.now.same, c.requires.which)) ∙ c.requires.counted) (omega (arith, c.if-index-before.true)) c.requires.there
