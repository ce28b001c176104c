-- The worked cases.
use Rattle.std.proofs.Common.{◌≡◌, ℕ, ◌+◌, ◌*◌, ◌^◌, ◌<◌, ◌≤◌, List, [], ◌∷◌, ◌++◌, length, decimal, refl, ap, ◌∙◌, subst, arith}
use Rattle.std.specs.List.{flat_map}
use Rattle.std.proofs.lemmas.Fmt.{decimal_digit}
use Rattle.store.specs.Limits.{longest_value}
use Rattle.wire.specs.Texts.{Strays}
use Rattle.request.specs.Grammar.{Arguments, count_line, argument_text, request_text, most_arguments}
use Rattle.request.specs.Answers.{Takes, Lacks, parts_of}
use Rattle.request.specs.Laws.{WorkedCases}
use Rattle.wire.specs.Steps.{crlf, Just, Number}
use Rattle.request.specs.Steps.{Line, CountLine, LengthLine, Argument, Rows, Requests}
use Rattle.request.specs.declared.taken.Part.{Part}
use Rattle.wire.proofs.Sets.{front_strays, back_strays, front_just, byte_other}
use Rattle.wire.proofs.Numbers.{zero_strays, ends_high, back_number}
use Rattle.request.proofs.Marked.{back_line}
use Rattle.request.proofs.Arguments.{front_argument}
use Rattle.request.proofs.Rows.{front_request, back_request, front_rows}
use Rattle.request.proofs.Findings.{lacks, faults}
use Rattle.request.proofs.Laws.{taken_with}

no_bytes : Lacks []
no_bytes = lacks [] (record {
  word = request_text ([] ∷ []);
  lawful = ([] ∷ [], ((omega arith, omega arith, (omega arith, tt)), (tt, tt)), refl);
  next = 42;
  rest = (decimal 1 ++ crlf) ++ flat_map argument_text ([] ∷ []);
  split = refl;
})

-- a count that strays makes the request stray
strays : (s : List ℕ) (p : ℕ) → Strays CountLine s p → Strays Requests s p
strays s p h = front_strays Requests CountLine s p (front_request s) h

star_0 : (x : List ℕ) → Strays CountLine (42 ∷ 48 ∷ x) 1
star_0 x =
    back_strays CountLine (Number 1 most_arguments) (42 ∷ []) (48 ∷ x) 0 (back_line 42 1 most_arguments (48 ∷ x)) (zero_strays 1 most_arguments x (omega arith) (omega arith) (omega arith) (omega arith))

-- no line goes on after the digit n with the digit d
digit_strays : (mark low high n d : ℕ) → n < 10 → d < 10 → low ≤ n → n ≤ high → high < n * 10 + d → high < 2 ^ 64 → Strays (Line mark low high) (mark ∷ (48 + n) ∷ (48 + d) ∷ []) 2
digit_strays mark low high n d hn hd l h past small =
    let rest = (48 + d) ∷ [] in
    let ends = ends_high high n d rest [] small h hd past refl in
    let cr : Strays (Just crlf) rest 0 = front_strays (Just crlf) (Just (13 ∷ [])) rest 0 (front_just (13 ∷ []) (10 ∷ []) rest) (byte_other 13 (48 + d) [] (λ e. omega arith)) in
    let number : Strays (Number low high) (decimal n ++ rest) (length (decimal n) + 0) = back_strays (Number low high) (Just crlf) (decimal n) rest 0 (back_number low high n rest small (l, h) ends) cr in
    subst (λ x. Strays (Line mark low high) (mark ∷ (x ++ rest)) (1 + (length x + 0))) (decimal_digit n hn)
    (back_strays (Line mark low high) (Number low high) (mark ∷ []) (decimal n ++ rest) (length (decimal n) + 0) (back_line mark low high (decimal n ++ rest)) number)

star_17 : Strays CountLine (42 ∷ 49 ∷ 55 ∷ []) 2
star_17 = digit_strays 42 1 most_arguments 1 7 (omega arith) (omega arith) (omega arith) (omega arith) (omega arith) (omega arith)

dollar_65 : Strays Requests (42 ∷ 49 ∷ 13 ∷ 10 ∷ 36 ∷ 54 ∷ 53 ∷ []) 6
dollar_65 =
    let s : List ℕ = 36 ∷ 54 ∷ 53 ∷ [] in
    let length_strays : Strays LengthLine s 2 = digit_strays 36 0 longest_value 6 5 (omega arith) (omega arith) (omega arith) (omega arith) (omega arith) (omega arith) in
    let rows : Strays (Rows 1) s 2 = front_strays (Rows 1) Argument s 2 (front_rows 0 s) (front_strays Argument LengthLine s 2 (front_argument s) length_strays) in
    subst (λ x. Strays Requests ((42 ∷ (x ++ crlf)) ++ s) (length (42 ∷ (x ++ crlf)) + 2)) (decimal_digit 1 (omega arith))
    (back_strays Requests (Rows 1) (count_line 1) s 2 (back_request 1 s (omega arith, omega arith)) rows)

-- `LLEN` and `k`
abbrev llen_k : Arguments
llen_k = (76 ∷ 76 ∷ 69 ∷ 78 ∷ []) ∷ (107 ∷ []) ∷ []

-- the text and the parts of the same, by the numerals of the count and the lengths
abbrev text : List ℕ → List ℕ → List ℕ → List ℕ
text count four one = (42 ∷ (count ++ crlf)) ++ (((36 ∷ (four ++ crlf)) ++ (76 ∷ 76 ∷ 69 ∷ 78 ∷ crlf)) ++ (((36 ∷ (one ++ crlf)) ++ (107 ∷ crlf)) ++ []))

abbrev parts : List ℕ → List ℕ → List ℕ → List Part
parts count four one =
    let head = length (42 ∷ (count ++ crlf)) in
    let first = length (36 ∷ (four ++ crlf)) in
    let next = length ((36 ∷ (four ++ crlf)) ++ (76 ∷ 76 ∷ 69 ∷ 78 ∷ crlf)) in
    record { place = head + first; size = 4 } ∷ record { place = head + next + length (36 ∷ (one ++ crlf)); size = 1 } ∷ []

numerals : {X : Type 0} (f : List ℕ → List ℕ → List ℕ → X) → f (decimal 2) (decimal 4) (decimal 1) ≡ f (50 ∷ []) (52 ∷ []) (49 ∷ [])
numerals f =
    ap (λ x. f x (decimal 4) (decimal 1)) (decimal_digit 2 (omega arith))
    ∙ ap (λ x. f (50 ∷ []) x (decimal 1)) (decimal_digit 4 (omega arith))
    ∙ ap (λ x. f (50 ∷ []) (52 ∷ []) x) (decimal_digit 1 (omega arith))

whole : Takes (text (50 ∷ []) (52 ∷ []) (49 ∷ []) ++ (42 ∷ 48 ∷ [])) llen_k (parts (50 ∷ []) (52 ∷ []) (49 ∷ [])) 21
whole =
    subst (λ n. Takes (text (50 ∷ []) (52 ∷ []) (49 ∷ []) ++ (42 ∷ 48 ∷ [])) llen_k (parts (50 ∷ []) (52 ∷ []) (49 ∷ [])) n) (numerals (λ x y z. length (text x y z)))
    (subst (λ l. Takes (text (50 ∷ []) (52 ∷ []) (49 ∷ []) ++ (42 ∷ 48 ∷ [])) llen_k l (length (request_text llen_k))) (numerals parts)
    (subst (λ l. Takes (l ++ (42 ∷ 48 ∷ [])) llen_k (parts_of llen_k) (length (request_text llen_k))) (numerals text)
    (taken_with llen_k (42 ∷ 48 ∷ []) ((omega arith, omega arith, (omega arith, (omega arith, tt))), ((omega arith, (omega arith, (omega arith, (omega arith, tt)))), ((omega arith, tt), tt))))))

pub worked : WorkedCases
worked = record {
  no_bytes = no_bytes;
  zero = faults (42 ∷ 48 ∷ []) 1 (strays (42 ∷ 48 ∷ []) 1 (star_0 []));
  leading_zero = faults (42 ∷ 48 ∷ 49 ∷ []) 1 (strays (42 ∷ 48 ∷ 49 ∷ []) 1 (star_0 (49 ∷ [])));
  seventeen = faults (42 ∷ 49 ∷ 55 ∷ []) 2 (strays (42 ∷ 49 ∷ 55 ∷ []) 2 star_17);
  sixty_five = faults (42 ∷ 49 ∷ 13 ∷ 10 ∷ 36 ∷ 54 ∷ 53 ∷ []) 6 dollar_65;
  whole = whole;
}
