use Rattle.std.proofs.Common.{◌≡◌, [], get_or, subst, arith}
use Rattle.links.proofs.Tables.{within}
use Rattle.records.specs.declared.record.ListRecord.{ListRecord}
use Rattle.quicklist.specs.Tables.{count_at, room, links_of, Relisted}
use Rattle.quicklist.proofs.Records.{field_read}
use Rattle.quicklist.proofs.Wholes.{blank}
use Rattle.quicklist.proofs.Places.{located_in, added_there, last_node}
use Rattle.quicklist.proofs.table.Tables.insert_in.Goals as goal

pub locate-spot-requires : goal.locate-spot-requires
locate-spot-requires c =
    let s = c.args.self.now in
    let k : (get_or s.lists.now c.args.e blank).count ≡ count_at s.lists.now c.args.e = field_read (λ (r : ListRecord). r.count) s.lists.now c.args.e 0 blank (omega (arith, c.args.self.now.same, c.requires.which)) in
    record { which = c.requires.which; counted = c.requires.counted; there = omega (arith, k, c.requires.counted, c.if-index-self.true) }

pub put_in-requires : goal.put_in-requires
put_in-requires c =
    let f = c.locate-spot.ensures in
    record { which = c.requires.which; more = c.requires.more; there = located_in c.args.self.now c.args.e _ _ _ f; place = omega (arith, f.inside) }

pub returns-then-index-self : goal.returns-then-index-self
returns-then-index-self c =
    let s = c.args.self.now in
    let f = c.locate-spot.ensures in
    record {
      nodes = subst (Relisted s c.put_in.new.self c.args.e) (added_there s c.args.e _ _ _ f c.args.value.now.bytes.now) (c.put_in.ensures.nodes f.before f.behind f.is);
    }

pub count_in-place-requires : goal.count_in-place-requires
count_in-place-requires c =
    let s = c.args.self.now in
    let n = (get_or s.lists.now c.args.e blank).last in
    let d = last_node s c.args.e c.args.self.now.linked c.requires.which c.requires.used n (field_read (λ (r : ListRecord). r.last) s.lists.now c.args.e 0 blank (omega (arith, c.args.self.now.same, c.requires.which))) in
    let w = within (room s) (links_of s) c.args.self.now.linked c.args.e n c.requires.which (omega (arith, d.there)) in
    record { some = w.0; within = w.1 }

pub put_in-requires-2 : goal.put_in-requires-2
put_in-requires-2 c =
    let s = c.args.self.now in
    let n = (get_or s.lists.now c.args.e blank).last in
    let d = last_node s c.args.e c.args.self.now.linked c.requires.which c.requires.used n (field_read (λ (r : ListRecord). r.last) s.lists.now c.args.e 0 blank (omega (arith, c.args.self.now.same, c.requires.which))) in
    record { which = c.requires.which; more = c.requires.more; there = d.there; place = omega (arith, c.count_in-place.ensures) }

pub returns : goal.returns
returns c =
    let s = c.args.self.now in
    let n = (get_or s.lists.now c.args.e blank).last in
    let k : (get_or s.lists.now c.args.e blank).count ≡ count_at s.lists.now c.args.e = field_read (λ (r : ListRecord). r.count) s.lists.now c.args.e 0 blank (omega (arith, c.args.self.now.same, c.requires.which)) in
    let d = last_node s c.args.e c.args.self.now.linked c.requires.which c.requires.used n (field_read (λ (r : ListRecord). r.last) s.lists.now c.args.e 0 blank (omega (arith, c.args.self.now.same, c.requires.which))) in
    record {
      nodes = subst (Relisted s c.put_in-2.new.self c.args.e)
          (d.rule c.args.index c.count_in-place.result c.args.value.now.bytes.now (omega (arith, k, c.requires.counted, c.requires.there, c.if-index-self.false)) c.count_in-place.ensures)
          (c.put_in-2.ensures.nodes d.before [] d.is);
    }
