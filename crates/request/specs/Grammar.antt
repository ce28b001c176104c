-- What a request is, and which bytes it has on the wire.
use Rattle.std.specs.Prelude.{ℕ, ◌+◌, ◌*◌, ◌≤◌, List, ◌∷◌, ◌++◌, length, decimal}
use Rattle.std.specs.List.{flat_map, AllByRecursion}
use Rattle.store.specs.Limits.{longest_value}
pub use Rattle.wire.specs.Steps.{crlf, Bytes}

-- the most arguments that a request has, the command's name among them
abbrev pub most_arguments : ℕ
most_arguments = 16

-- the arguments of a request, number 0 first
abbrev pub Arguments : Type 0
Arguments = List (List ℕ)

-- a mark, a number in decimal and CR LF
abbrev pub line : ℕ → ℕ → List ℕ
line mark n = mark ∷ (decimal n ++ crlf)

-- `*n` CR LF
abbrev pub count_line : ℕ → List ℕ
count_line n = line 42 n

-- `$m` CR LF
abbrev pub length_line : ℕ → List ℕ
length_line m = line 36 m

-- `$m` CR LF, the m bytes, CR LF
abbrev pub argument_text : List ℕ → List ℕ
argument_text b = length_line (length b) ++ (b ++ crlf)

-- `*n` CR LF, the n arguments
abbrev pub request_text : Arguments → List ℕ
request_text args = count_line (length args) ++ flat_map argument_text args

-- the most bytes that a request has, with two digits in each line
abbrev pub longest_request : ℕ
longest_request = 5 + most_arguments * (5 + longest_value + 2)

-- one to `most_arguments` arguments, none longer than a value
abbrev pub Fits : Arguments → Type 0
Fits args = (1 ≤ length args) × (length args ≤ most_arguments) × AllByRecursion (λ b. length b ≤ longest_value) args

-- the arguments of a lawful request
abbrev pub Lawful : Arguments → Type 0
Lawful args = Fits args × AllByRecursion Bytes args
