-- No request begins another.
use Rattle.std.proofs.Common.{◌≡◌, ℕ, ◌≤◌, List, [], ◌∷◌, ◌++◌, length, sym, refl, ap, ◌∙◌, append_assoc, arith}
use Rattle.std.specs.List.{flat_map, AllByRecursion}
use Rattle.std.proofs.lemmas.List.{append_cancel_left}
use Rattle.store.specs.Limits.{longest_value}
use Rattle.request.specs.Grammar.{Arguments, count_line, argument_text, request_text, Fits}
use Rattle.request.proofs.Marked.{line_free}
use Rattle.request.proofs.Arguments.{argument_free}

rows_free : (xs bs : Arguments) (t u : List ℕ) → length xs ≡ length bs → AllByRecursion (λ b. length b ≤ longest_value) xs → AllByRecursion (λ b. length b ≤ longest_value) bs → flat_map argument_text xs ++ t ≡ flat_map argument_text bs ++ u → xs ≡ bs
rows_free [] [] t u l x y e = refl
rows_free [] (b ∷ bs) t u l x y e = absurd (omega arith)
rows_free (a ∷ xs) [] t u l x y e = absurd (omega arith)
rows_free (a ∷ xs) (b ∷ bs) t u l x y e =
    let whole : argument_text a ++ (flat_map argument_text xs ++ t) ≡ argument_text b ++ (flat_map argument_text bs ++ u) =
    sym (append_assoc (argument_text a) (flat_map argument_text xs) t) ∙ e ∙ append_assoc (argument_text b) (flat_map argument_text bs) u in
    let same : a ≡ b = argument_free a b (flat_map argument_text xs ++ t) (flat_map argument_text bs ++ u) x.0 y.0 whole in
    let rest = append_cancel_left (argument_text a) (flat_map argument_text xs ++ t) (flat_map argument_text bs ++ u) (whole ∙ ap (λ z. argument_text z ++ (flat_map argument_text bs ++ u)) (sym same)) in
    let more : xs ≡ bs = rows_free xs bs t u (omega arith) x.1 y.1 rest in
    cc

-- two requests that begin one text are one
pub request_free : (xs bs : Arguments) (t u : List ℕ) → Fits xs → Fits bs → request_text xs ++ t ≡ request_text bs ++ u → xs ≡ bs
request_free xs bs t u x y e =
    let m = length xs in
    let n = length bs in
    let whole : count_line m ++ (flat_map argument_text xs ++ t) ≡ count_line n ++ (flat_map argument_text bs ++ u) =
    sym (append_assoc (count_line m) (flat_map argument_text xs) t) ∙ e ∙ append_assoc (count_line n) (flat_map argument_text bs) u in
    let same : m ≡ n = line_free 42 n m (flat_map argument_text bs ++ u) (flat_map argument_text xs ++ t) (omega (arith, y.1)) (omega (arith, x.1)) whole in
    let rest = append_cancel_left (count_line m) (flat_map argument_text xs ++ t) (flat_map argument_text bs ++ u) (whole ∙ ap (λ k. count_line k ++ (flat_map argument_text bs ++ u)) (sym same)) in
    rows_free xs bs t u same x.2 y.2 rest
