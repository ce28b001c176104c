-- What the reader answers, and which answer is right for given bytes.
use Rattle.std.specs.Prelude.{◌≡◌, ℕ, ◌+◌, ◌≤◌, List, [], ◌∷◌, map, length, take, drop, Ok, Err, Result}
use Rattle.wire.specs.Texts.{Begins}
use Rattle.request.specs.Grammar.{Arguments, length_line, count_line, argument_text, request_text, Lawful}
use Rattle.request.specs.declared.taken.Part.{Part}
use Rattle.request.specs.declared.taken.Request.{Request}
use Rattle.wire.specs.declared.stop.ReadError.{ReadError}
use Rattle.wire.specs.declared.stop.ReadError.TheVariants.{More, Fault}

-- ---- where arguments stand

-- the bytes of s at a part
abbrev pub cut : List ℕ → Part → List ℕ
cut s p = take p.size (drop p.place s)

-- the parts of arguments that have n bytes before them
abbrev pub parts_from : ℕ → Arguments → List Part
parts_from n [] = []
parts_from n (b ∷ bs) = (record { place = n + length (length_line (length b)); size = length b }) ∷ parts_from (n + length (argument_text b)) bs

-- the parts of the arguments of a request
abbrev pub parts_of : Arguments → List Part
parts_of args = parts_from (length (count_line (length args))) args

-- ---- what is found at the front of bytes

-- a request with the parts of its arguments and its length; that more is needed; a fault
pub data Finding : Type 0 where
  taken : (args : Arguments) (parts : List Part) (span : ℕ) → Finding
  more : Finding
  fault : (place : ℕ) → Finding

-- s begins with a whole lawful request
abbrev pub Holds : List ℕ → Type 0
Holds s = (args : Arguments) × Lawful args × Begins (request_text args) s

-- s is the beginning of a lawful request
abbrev pub Opens : List ℕ → Type 0
Opens s = (args : Arguments) × Lawful args × Begins s (request_text args)

-- the first n bytes of s are the beginning of a lawful request
abbrev pub Shares : List ℕ → ℕ → Type 0
Shares s n = (n ≤ length s) × Opens (take n s)

-- s begins with the request of these arguments, which stand at these parts of s, and it has `span` bytes
pub record Takes (s : List ℕ) (args : Arguments) (parts : List Part) (span : ℕ) : Type 0 where
  pub lawful : Lawful args
  pub begins : Begins (request_text args) s
  pub placed : parts ≡ parts_of args
  pub there : map (cut s) parts ≡ args
  pub spans : span ≡ length (request_text args)

-- s begins a lawful request and holds no whole one
pub record Lacks (s : List ℕ) : Type 0 where
  pub opens : Opens s
  pub part : Holds s → ⊥

-- s neither holds a lawful request nor begins one, and its longest beginning that begins one has p bytes
pub record Faults (s : List ℕ) (p : ℕ) : Type 0 where
  pub none : Holds s → ⊥
  pub never : Opens s → ⊥
  pub shares : Shares s p
  pub longest : (n : ℕ) → Shares s n → n ≤ p

-- which finding is right for s
abbrev pub Correct : List ℕ → Finding → Type 0
Correct s (taken args parts span) = Takes s args parts span
Correct s more = Lacks s
Correct s (fault p) = Faults s p

-- ---- what an answer tells

abbrev pub parts_in : Request → List Part
parts_in q = take q.count q.parts

abbrev pub arguments : Request → Arguments
arguments q = map (cut q.bytes.now) (parts_in q)

abbrev pub refused : ReadError → Finding
refused More = more
refused (Fault p) = fault p

abbrev pub finding : Result Request ReadError → Finding
finding (Ok q) = taken (arguments q) (parts_in q) q.span
finding (Err e) = refused e

-- a request's bytes are those given, its count is that of its arguments, and it ends within them
pub record Kept (s : List ℕ) (q : Request) : Type 0 where
  pub bytes : q.bytes.now ≡ s
  pub count : q.count ≡ length (arguments q)
  pub within : q.span ≤ length s
