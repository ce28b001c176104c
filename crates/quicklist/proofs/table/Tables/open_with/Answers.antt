use Rattle.std.proofs.Common.{ap, ◌∙◌}
use Rattle.listpack.specs.Packs.{takes}
use Rattle.listpack.proofs.Sizes.{lone}
use Rattle.quicklist.proofs.table.Tables.open_with.Goals as goal

-- a value that is short enough fits where there is none
pub unwrap-requires : goal.unwrap-requires
unwrap-requires c = c.prepend.ensures.made.1 (c.args.value.now.short, ap (λ us. takes us c.args.value.now.bytes.now) c.empty-pack.ensures ∙ lone c.args.value.now.bytes.now c.args.value.now.short)
