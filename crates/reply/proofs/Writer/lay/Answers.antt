use Rattle.std.proofs.Common.{◌≡◌, ◌+◌, ◌-◌, ◌++◌, length, take, drop, refl, ap, ◌∙◌, arith}
use Rattle.std.proofs.lemmas.List.{drop-drop}
use Rattle.reply.specs.Written.{over}
use Rattle.reply.proofs.Writer.lay.Goals as goal

pub returns : goal.returns
unfolding over
returns c =
    let out = c.args.self.now.out.now in
    let at = c.args.self.now.place in
    let w = c.args.bytes.now in
    let size : at + length w - at ≡ length w = omega arith in
    record {
      same_output = refl;
      place = refl;
      laid =
          ap (λ l. take at out ++ (l ++ drop (at + length w - at) (drop at out))) c.copy_from_slice.ensures.after
          ∙ ap (λ n. take at out ++ (w ++ drop n (drop at out))) size
          ∙ ap (λ l. take at out ++ (w ++ l)) (drop-drop (length w) at out);
    }
