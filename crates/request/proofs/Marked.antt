-- Lines of a mark and a number.
use Rattle.std.proofs.Common.{◌≡◌, ℕ, ◌^◌, ◌<◌, ◌≤◌, List, [], ◌∷◌, ◌++◌, decimal, refl, ap, ◌∙◌}
use Rattle.wire.specs.Steps.{crlf, Just, Number}
use Rattle.wire.proofs.Sets.{Front, Back}
use Rattle.wire.proofs.Numbers.{begin, number_free}
use Rattle.request.specs.Grammar.{line}
use Rattle.request.specs.Steps.{Line}

-- two lines that begin one text are one
pub line_free : (mark n m : ℕ) (r t : List ℕ) → n < 2 ^ 64 → m < 2 ^ 64 → line mark m ++ t ≡ line mark n ++ r → m ≡ n
line_free mark n m r t hn hm e =
    let f : (decimal m ++ crlf) ++ t ≡ (decimal n ++ crlf) ++ r = cc in
    number_free n m r t hn hm f

-- a line, before and after its mark
pub front_line : (mark low high : ℕ) (s : List ℕ) → low ≤ 1 → 9 ≤ high → Front (Line mark low high) (Just (mark ∷ [])) s
front_line mark low high s hl hh =
    record {
      grows = λ v e. let one = begin low high hl hh in (49 ∷ crlf, (one.0, one.1, ap (λ l. l ++ (49 ∷ crlf)) e ∙ ap (λ l. mark ∷ l) one.2));
      parts = λ w l. (mark ∷ [], decimal l.0 ++ crlf, refl, l.2);
    }

pub back_line : (mark low high : ℕ) (s : List ℕ) → Back (Line mark low high) (Number low high) (mark ∷ []) s
back_line mark low high s =
    record {
      joins = λ v l. (l.0, l.1, ap (λ x. mark ∷ x) l.2);
      leads = λ c r is w t r' l e. (decimal l.0 ++ crlf, (l.0, l.1, refl), l.2);
    }
