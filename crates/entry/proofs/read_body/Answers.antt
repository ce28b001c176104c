use Rattle.std.proofs.Common.{◌≡◌, ℕ, List, Some, None, Option, drop, sym, ap, ◌∙◌, subst}
use Rattle.std.specs.Option.{option_map}
use Rattle.std.proofs.lemmas.Option.{none-some, same_Some}
use Rattle.decimal.specs.Integer.{integer}
use Rattle.entry.specs.Reading.{number_in, text_in, other, text_of, either, value_in, Taken}
use Rattle.entry.proofs.read_body.Goals as goal

text_value : (bs v : List ℕ) (place : Option ℕ) → Some v ≡ option_map (λ n. drop n bs) place → text_of bs place ≡ other v (integer v)
text_value bs v None e = absurd (none-some v (sym e))
text_value bs v (Some n) e = ap (λ x. other x (integer x)) (sym (same_Some v (drop n bs) e))

pub returns : goal.returns
returns c =
    let bs = c.args.coded.now in
    let n : number_in bs ≡ None = sym c.in_default.ensures in
    let e : value_in bs ≡ other c.in_ok-read_text.field-0 (integer c.in_ok-read_text.field-0) = ap (either bs) n ∙ text_value bs c.in_ok-read_text.field-0 (text_in bs) c.in_ok-read_text.ensures.some in
    subst (λ o. Taken o c.args.out.now c.put_text.new.out c.put_text.result) (sym e) c.put_text.ensures
