use Rattle.std.proofs.Common.{◌≡◌, ◌+◌, ◌<◌, [], ◌∷◌, ◌++◌, length, get_or, drop, is_some, ap, ◌∙◌, arith}
use Rattle.entry.specs.Entry.{entry}
use Rattle.listpack.specs.Layout.{entries, total}
use Rattle.listpack.specs.Packs.{values_in}
use Rattle.listpack.proofs.Contents.{held}
use Rattle.listpack.proofs.PackLaws.{held_short}
use Rattle.listpack.proofs.Spots.{rest_there, entry_there}
use Rattle.listpack.proofs.pack.Listpack.value_at.Goals as goal

pub unwrap-size-requires : goal.unwrap-size-requires
unwrap-size-requires c =
    let p = c.args.self.now in
    let vs = values_in p in
    let i = c.args.index in
    let within : i < length vs = omega arith in
    let e = rest_there vs i p.bytes c.place_at.result (omega arith) c.place_at.ensures.there ∙ entry_there vs i p.bytes (held p) within in
    ap is_some (c.decode.ensures.known (get_or vs i []) (entries (drop (i + 1) vs) ++ 255 ∷ drop (total vs) p.bytes) (held_short p i, e)).0

pub returns : goal.returns
returns c =
    let p = c.args.self.now in
    let vs = values_in p in
    let i = c.args.index in
    let v = get_or vs i [] in
    let within : i < length vs = omega arith in
    let e = rest_there vs i p.bytes c.place_at.result (omega arith) c.place_at.ensures.there ∙ entry_there vs i p.bytes (held p) within in
    let d = c.decode.ensures.known v (entries (drop (i + 1) vs) ++ 255 ∷ drop (total vs) p.bytes) (held_short p i, e) in
    let u = c.unwrap-size.ensures in
    let q : c.unwrap-size.result ≡ (length v, length (entry v)) = cc (d.0, u) in
    let n : c.unwrap-size.result.0 ≡ length v = ap (λ x. x.0) q in
    (within, omega (arith, held_short p i), n, d.1)
