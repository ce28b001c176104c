use Rattle.std.proofs.Common.{◌++◌, length, decimal, refl, ap, ◌∙◌, append_assoc, arith}
use Rattle.wire.proofs.Sizes.{bytes_from}
use Rattle.reply.specs.Replies.{line}
use Rattle.wire.specs.Steps.{crlf}
use Rattle.reply.specs.Written.{over}
use Rattle.reply.proofs.Letters.{bulk_long}
use Rattle.reply.proofs.Writers.{lays_more, lays_count, lays_bytes}
use Rattle.reply.proofs.Writer.bulk.Goals as goal

pub lay-requires : goal.lay-requires
lay-requires c =
    let told = c.write-count.ensures in
    let l = lays_count c.args.bytes.now _ _ _ c.args.self.now _ told.bytes told.size (c.if-not-has_room.ensures.0 refl) c.lay_line.ensures in
    omega (arith, l.1)

pub lay-requires-2 : goal.lay-requires-2
lay-requires-2 c =
    let told = c.write-count.ensures in
    (lays_bytes c.args.bytes.now _ _ _ c.args.self.now _ _ told.bytes told.size (c.if-not-has_room.ensures.0 refl) c.lay_line.ensures c.lay.ensures).1

pub returns-clause-wrote : goal.returns-clause-wrote
returns-clause-wrote c =
    let a = c.args.self.now in
    let w = c.args.bytes.now in
    let head = line 36 (decimal (length w)) in
    let told = c.write-count.ensures in
    let room = c.if-not-has_room.ensures.0 refl in
    let l = lays_bytes w _ _ _ a _ _ told.bytes told.size room c.lay_line.ensures c.lay.ensures in
    let e = lays_more (head ++ w) crlf a c.lay.new.self c.lay-2.new.self l.2 l.0 c.lay-2.ensures in (
      (omega arith, bytes_from w (λ i. omega (arith, c.type_inv.bytes i))),
      omega (arith, told.size, bulk_long w),
      room,
      e.laid ∙ ap (over a.out.now a.place) (append_assoc head w crlf),
    )
