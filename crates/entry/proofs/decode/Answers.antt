use Rattle.std.proofs.Common.{◌+◌, Some, sym, subst, arith}
use Rattle.entry.specs.Entry.{Decoded}
use Rattle.entry.proofs.Decoding.{no_size, no_value, a_value, back}
use Rattle.entry.proofs.decode.Goals as goal

pub returns : goal.returns
returns c =
    let bytes = c.args.bytes.now in
    let w = c.in_ok-size.ensures.within in
    let d = a_value bytes c.args.out.now c.read_body.new.out c.in_ok-size.size c.in_ok-length.length (λ i. omega (arith, c.type_inv.bytes i)) (sym c.in_ok-size.ensures.value) w.0 w.1 c.in_ok-length.ensures in
    record { exact = d; known = back bytes c.args.out.now c.read_body.new.out (Some (c.in_ok-length.length, c.in_ok-size.size + 1)) d }

pub returns-in_err-length : goal.returns-in_err-length
returns-in_err-length c =
    let bytes = c.args.bytes.now in
    let r = c.from_residual-in_err-length in
    let d = subst (Decoded bytes c.args.out.now c.read_body.new.out) (sym r.ensures) (no_value bytes c.args.out.now c.read_body.new.out c.in_ok-size.size (sym c.in_ok-size.ensures.value) c.in_err-length.ensures) in
    record { exact = d; known = back bytes c.args.out.now c.read_body.new.out r.result d }

pub returns-in_err-size : goal.returns-in_err-size
returns-in_err-size c =
    let bytes = c.args.bytes.now in
    let out = c.args.out.now in
    let r = c.from_residual in
    let d = subst (Decoded bytes out out) (sym r.ensures) (no_size bytes out (sym c.in_err-size.ensures.value)) in
    record { exact = d; known = back bytes out out r.result d }
