use Rattle.std.proofs.Common.{◌≡◌, ◌+◌, ◌≤◌, is_some, length, ap, ◌∙◌, arith, rules}
use Rattle.listpack.specs.Layout.{most_bytes}
use Rattle.listpack.specs.Places.{place}
use Rattle.listpack.specs.Packs.{values_in}
use Rattle.listpack.proofs.Contents.{held}
use Rattle.listpack.proofs.PackLaws.{held_fits}
use Rattle.listpack.proofs.Spots.{place_order, place_below, span_read, next_there}
use Rattle.listpack.proofs.pack.Listpack.place_from.Goals as goal

pub slice_bounds-span-count : goal.slice_bounds-span-count
slice_bounds-span-count c = omega (arith, place_below (values_in c.args.self.now) c.loop.counter, held_fits c.args.self.now)

pub slice_bounds-span-start : goal.slice_bounds-span-start
slice_bounds-span-start c =
    let l : c.loop.at ≤ 508 = omega (arith, place_below (values_in c.args.self.now) c.loop.counter, held_fits c.args.self.now) in
    search rules

pub unwrap-at-requires : goal.unwrap-at-requires
unwrap-at-requires c =
    let p = c.args.self.now in
    let l : length p.bytes ≡ most_bytes = omega arith in
    ap is_some (span_read (values_in p) c.loop.counter p.bytes c.loop.at c.span.result (held p) l c.loop.invariant (omega arith) c.span.ensures.value)

reached : (c : goal.After-unwrap-at) → c.loop.at + c.unwrap-at.result ≡ place (values_in c.args.self.now) (c.loop.counter + 1)
reached c =
    let p = c.args.self.now in
    let l : length p.bytes ≡ most_bytes = omega arith in
    next_there (values_in p) c.loop.counter p.bytes c.loop.at c.unwrap-at.result c.span.result (held p) l c.loop.invariant (omega arith) c.span.ensures.value c.unwrap-at.ensures

pub overflow_add-at : goal.overflow_add-at
overflow_add-at c = let e = reached c in omega (arith, place_below (values_in c.args.self.now) (c.loop.counter + 1), held_fits c.args.self.now)

pub loop-preserved : goal.loop-preserved
loop-preserved c = reached c

pub returns : goal.returns
returns c =
    let vs = values_in c.args.self.now in
    let n : c.loop.counter ≡ c.args.next = omega arith in
    let e : c.loop.at ≡ place vs c.args.next = c.loop.invariant ∙ ap (place vs) n in
    record { there = e; onward = omega (arith, place_order vs c.args.index c.args.next c.requires.order); below = omega (arith, place_below vs c.args.next) }
