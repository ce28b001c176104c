-- What follows for every text: at most one finding is right, and bytes past the request or past the fault do not matter; and worked cases.
use Rattle.std.specs.Prelude.{◌≡◌, ℕ, ◌+◌, ◌<◌, ◌≤◌, List, [], ◌∷◌, ◌++◌, length, take}
use Rattle.request.specs.Grammar.{Arguments, request_text, longest_request, Lawful}
use Rattle.request.specs.Answers.{Finding, taken, more, fault, Correct}
use Rattle.request.specs.declared.taken.Part.{Part}

pub record FindingLaws : Type 0 where
  pub one : (s : List ℕ) (f g : Finding) → Correct s f → Correct s g → f ≡ g
  -- whatever comes after the request, or after the first byte that cannot stand where it stands
  pub after_request : (s t : List ℕ) (args : Arguments) (parts : List Part) (span : ℕ) → Correct s (taken args parts span) → Correct (take span s ++ t) (taken args parts span)
  pub after_fault : (s t : List ℕ) (p : ℕ) → Correct s (fault p) → Correct (take (p + 1) s ++ t) (fault p)
  -- a request, and so what lacks some of one, has a bound
  pub bounded : (args : Arguments) → Lawful args → length (request_text args) ≤ longest_request
  pub below : (s : List ℕ) → Correct s more → length s < longest_request

-- `*0`, `*01` and `*17`
abbrev star_0 : List ℕ
star_0 = 42 ∷ 48 ∷ []

abbrev star_01 : List ℕ
star_01 = 42 ∷ 48 ∷ 49 ∷ []

abbrev star_17 : List ℕ
star_17 = 42 ∷ 49 ∷ 55 ∷ []

-- `*1` CR LF `$65`
abbrev dollar_65 : List ℕ
dollar_65 = 42 ∷ 49 ∷ 13 ∷ 10 ∷ 36 ∷ 54 ∷ 53 ∷ []

-- `*2` CR LF `$4` CR LF `LLEN` CR LF `$1` CR LF `k` CR LF, and then `*0`
abbrev llen_k : List ℕ
llen_k = 42 ∷ 50 ∷ 13 ∷ 10 ∷ 36 ∷ 52 ∷ 13 ∷ 10 ∷ 76 ∷ 76 ∷ 69 ∷ 78 ∷ 13 ∷ 10 ∷ 36 ∷ 49 ∷ 13 ∷ 10 ∷ 107 ∷ 13 ∷ 10 ∷ star_0

pub record WorkedCases : Type 0 where
  pub no_bytes : Correct [] more
  pub zero : Correct star_0 (fault 1)
  pub leading_zero : Correct star_01 (fault 1)
  pub seventeen : Correct star_17 (fault 2)
  pub sixty_five : Correct dollar_65 (fault 6)
  pub whole : Correct llen_k (taken ((76 ∷ 76 ∷ 69 ∷ 78 ∷ []) ∷ (107 ∷ []) ∷ []) (record { place = 8; size = 4 } ∷ record { place = 18; size = 1 } ∷ []) 21)
