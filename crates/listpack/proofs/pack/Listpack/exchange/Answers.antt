use Rattle.std.proofs.Common.{◌≡◌, ◌+◌, ◌-◌, ◌≤◌, length, arith}
use Rattle.listpack.specs.Layout.{most_bytes, total, read}
use Rattle.listpack.specs.Packs.{values_in}
use Rattle.listpack.specs.Places.{exchanged}
use Rattle.listpack.proofs.Sizes.{count_few}
use Rattle.listpack.proofs.Contents.{Holds, held, holds_lawful, values_held}
use Rattle.listpack.proofs.PackLaws.{held_short}
use Rattle.listpack.proofs.Exchanges.{length_read, run_few, length_exchanged, shorts_exchanged, grown_is, written_holds}
use Rattle.listpack.proofs.pack.Listpack.exchange.Goals as goal
use Rattle.listpack.proofs.pack.Listpack.exchange.Goals.{After-size-end, After-write_header}

-- the size that is written is that of the values afterwards
sized : (c : After-size-end) → c.size-end.result - (c.place_from-to.result - c.place_at-from.result) + length c.args.new.now ≡ total (exchanged (values_in c.args.self.now) c.args.index c.args.next (read c.args.more c.args.new.now))
sized c =
    grown_is (values_in c.args.self.now) c.args.index c.args.next c.requires.order (read c.args.more c.args.new.now) c.args.new.now c.place_at-from.result c.place_from-to.result c.size-end.result
    c.requires.run.whole c.place_at-from.ensures.there c.place_from-to.ensures.there c.size-end.ensures.said

pub returns-then-size-gt-MOST_BYTES-clause-full : goal.returns-then-size-gt-MOST_BYTES-clause-full
returns-then-size-gt-MOST_BYTES-clause-full c = omega (arith, sized (goal.at.returns-then-size-gt-MOST_BYTES-clause-full c).After-size-end)

pub overflow_add-count : goal.overflow_add-count
overflow_add-count c = omega (arith, run_few c.args.more c.args.new.now c.requires.run)

pub write_header-requires-clause-count : goal.write_header-requires-clause-count
write_header-requires-clause-count c =
    let vs = values_in c.args.self.now in
    let ns = read c.args.more c.args.new.now in
    let ws = exchanged vs c.args.index c.args.next ns in
    let s = shorts_exchanged vs c.args.index c.args.next c.requires.order ns (held_short c.args.self.now) c.requires.run.short in
    let t : total ws ≤ most_bytes = omega (arith, sized (goal.at.write_header-requires-clause-count c).After-size-end) in
    omega (arith, length_exchanged vs c.args.index c.args.next c.requires.order ns c.requires.within, length_read c.args.more c.args.new.now, count_few ws s t)

-- the bytes that are written hold the values afterwards
holds : (c : After-write_header) → Holds c.write_header.new.bytes (exchanged (values_in c.args.self.now) c.args.index c.args.next (read c.args.more c.args.new.now))
holds c =
    let p = c.args.self.now in
    let vs = values_in p in
    let ns = read c.args.more c.args.new.now in
    let m : c.count.result - (c.args.next - c.args.index) + c.args.more ≡ length (exchanged vs c.args.index c.args.next ns) =
    omega (arith, length_exchanged vs c.args.index c.args.next c.requires.order ns c.requires.within, length_read c.args.more c.args.new.now) in
    written_holds vs c.args.index c.args.next c.requires.order ns c.args.new.now c.place_at-from.result c.place_from-to.result c.size-end.result
    c.requires.run.whole c.place_at-from.ensures.there c.place_from-to.ensures.there c.size-end.ensures.said
    p.bytes c.splice.new.bytes c.write_header.new.bytes (c.count.result - (c.args.next - c.args.index) + c.args.more) (held p) c.requires.run.short (omega arith) m c.splice.ensures c.write_header.ensures

pub invariant_of-self : goal.invariant_of-self
invariant_of-self c = record { lawful = holds_lawful c.write_header.new.bytes _ (holds (goal.at.invariant_of-self c).After-write_header) }

pub returns-clause-fits : goal.returns-clause-fits
returns-clause-fits c = omega (arith, sized (goal.at.returns-clause-fits c).After-size-end)

pub returns-clause-ok : goal.returns-clause-ok
returns-clause-ok c = values_held c.write_header.new.bytes _ (holds (goal.at.returns-clause-ok c).After-write_header)
