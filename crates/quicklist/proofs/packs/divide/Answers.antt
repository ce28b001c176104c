use Rattle.std.proofs.Common.{◌≡◌, false, not, take, drop, sym, ap, ◌∙◌}
use Rattle.listpack.specs.Packs.{takes, values_in}
use Rattle.listpack.proofs.Sizes.{takes_split}
use Rattle.listpack.proofs.PackLaws.{held_fits}
use Rattle.quicklist.proofs.Refills.{short_ok}
use Rattle.quicklist.proofs.packs.divide.Goals as goal

-- a value that does not fit left of a split fits right of it
pub unwrap-requires : goal.unwrap-requires
unwrap-requires c =
    let p = c.args.pack.now in
    let j = c.args.j in
    let v = c.args.value.now.bytes.now in
    let front : values_in c.split_off.new.self ≡ take j (values_in p) = rw c.unwrap-right.ensures at c.split_off.ensures.front in
    let back : values_in c.unwrap-right.result ≡ drop j (values_in p) = rw c.unwrap-right.ensures at c.split_off.ensures.back in
    let full : false ≡ takes (take j (values_in p)) v = short_ok c.append.result false _ (sym (c.is_err.ensures.negation ∙ ap not c.if-is_err.true)) c.append.ensures.made c.args.value.now.short ∙ ap (λ us. takes us v) front in
    c.prepend.ensures.made.1 (c.args.value.now.short, ap (λ us. takes us v) back ∙ takes_split (values_in p) j v c.args.value.now.short (held_fits p) (sym full))
