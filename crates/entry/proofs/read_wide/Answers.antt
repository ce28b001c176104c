use Rattle.std.proofs.Common.{◌≡◌, ◌∙◌, ◌<◌, get_or, sym, ap, arith, w64, SFits, to_z, of_z}
use Rattle.std.proofs.lemmas.Int.{to_z-of_z}
use Rattle.std.specs.Bool.{then_some}
use Rattle.entry.specs.Widths.{sign_of}
use Rattle.entry.specs.Reading.{unlow, back}
use Rattle.entry.proofs.Widths.{spanned, number_own}
use Rattle.entry.proofs.read_wide.Goals as goal

pub from_bits-z-requires-clause-fits : goal.from_bits-z-requires-clause-fits
from_bits-z-requires-clause-fits c =
    omega (arith, c.from_low.ensures, c.sign.ensures, spanned c.args.width c.args.bytes.now (c.if-bytes-size.false ∙ c.size.ensures) (λ i. omega (arith, c.type_inv.bytes i)))

pub returns : goal.returns
returns c =
    let w = c.args.width in
    let ds = c.args.bytes.now in
    let f : SFits w64 c.from_bits-z.result = record { sfits = c.from_bits-z.type_inv } in
    let b : (i : _) → get_or ds i 0 < 256 = λ i. omega (arith, c.type_inv.bytes i) in
    let i : to_z w64 (of_z w64 c.from_bits-z.result) ≡ back (sign_of w) (unlow ds) = to_z-of_z w64 c.from_bits-z.result f ∙ c.from_bits-z.ensures ∙ cc in
    let e = number_own c.of.result w ds _ (c.if-bytes-size.false ∙ c.size.ensures) b i c.of.ensures.some c.of.ensures.none in
    c.then_some.ensures ∙ ap (λ t. then_some t (to_z w64 (of_z w64 c.from_bits-z.result))) c.eq.ensures ∙ sym e
