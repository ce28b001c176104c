use Rattle.std.proofs.Common.{◌≡◌, Option, Some, None, Ok, Err, Result, sym, ap, ◌∙◌, refl, subst, IsUtf8}
use Rattle.std.specs.Result.{result_ok}
use Rattle.std.proofs.lemmas.Option.{none-some}
use Rattle.decimal.specs.Integer.{Numberlike}
use Rattle.decimal.proofs.read.Goals as goal

none_if : {A : Type 0} (o : Option A) → ((n : A) → o ≡ Some n → ⊥) → o ≡ None
none_if None h = refl
none_if (Some n) h = absurd (h n refl)

-- what is parsed just where there is something, and is that
same : {A E : Type 0} (r : Result A E) (o : Option A) → ((n : A) → r ≡ Ok n → o ≡ Some n) → ((n : A) → o ≡ Some n → r ≡ Ok n) → result_ok r ≡ o
same (Ok n) o there back = sym (there n refl)
same (Err e) o there back = sym (none_if o (λ n k. none-some n (ap result_ok (back n k))))

pub returns-in_err-numeral : goal.returns-in_err-numeral
returns-in_err-numeral g c = c.from_residual.ensures ∙ sym (none_if _ (λ n e.
    let q = g.met.N.Decimal.reads c.args.text.now n e in
    c.in_err-numeral.ensures.none (subst Numberlike (sym q.0) (g.met.N.Decimal.is_numberlike n q.1)) (subst IsUtf8 (sym q.0) (g.met.N.Decimal.is_text n q.1))))

pub returns : goal.returns
returns g c =
    let law = g.met.N.Decimal in
    let t = c.args.text.now in
    let r = c.parse.result in
    let p = subst (λ ds. g.N.FromStr.from_str_gives ds r) c.in_ok-numeral.ensures.whole c.parse.ensures.value in
    c.ok.ensures.value ∙ same r (g.N.Decimal.number t)
    (λ n e.
    let k = subst (g.N.FromStr.from_str_gives t) e p in
    subst (λ ds. g.N.Decimal.number ds ≡ Some n) (sym (law.is_its_text t n c.in_ok-numeral.ensures.looks k)) (law.writes n (law.parsed t n k)))
    (λ n e.
    let q = law.reads t n e in
    law.parses n r q.1 (subst (λ ds. g.N.FromStr.from_str_gives ds r) q.0 p))
