-- What each step of the reader says.
use Rattle.std.specs.Prelude.{◌≡◌, ℕ, ◌+◌, ◌≤◌, List, ◌++◌, map, length, drop}
use Rattle.std.specs.List.{flat_map, AllByRecursion}
use Rattle.store.specs.Limits.{longest_value}
pub use Rattle.wire.specs.Steps.{Stopped, Just, Between, Number, NoDigit, Ends, Sized, Filled}
use Rattle.wire.specs.Steps.{Bytes}
use Rattle.wire.specs.declared.stop.Stop.{Stop}
use Rattle.request.specs.Grammar.{Arguments, most_arguments, line, count_line, length_line, argument_text, request_text, Lawful}
use Rattle.request.specs.Answers.{cut, parts_from, parts_in, arguments}
use Rattle.request.specs.declared.taken.Part.{Part}
use Rattle.request.specs.declared.taken.Request.{Request}
use Rattle.request.specs.declared.reader.Reader.{Reader}

-- what is left to read
abbrev pub left : Reader → List ℕ
left r = drop r.at r.bytes.now

-- the reader has passed w
pub record Passed (old new : Reader) (w : List ℕ) : Type 0 where
  pub same : new.bytes.now ≡ old.bytes.now
  pub at : new.at ≡ old.at + length w
  pub split : left old ≡ w ++ left new

-- why no text of L begins what is left to read
abbrev pub Stuck : (List ℕ → Type 0) → Reader → Stop → Type 0
Stuck L r e = Stopped L (left r) e

-- ---- sets of texts

abbrev pub Line : ℕ → ℕ → ℕ → List ℕ → Type 0
Line mark low high w = (n : ℕ) × Between low high n × (w ≡ line mark n)

-- counts and lengths, as their lines
abbrev pub CountLine : List ℕ → Type 0
CountLine w = Line 42 1 most_arguments w

abbrev pub LengthLine : List ℕ → Type 0
LengthLine w = Line 36 0 longest_value w

-- bytes that an argument may have
abbrev pub Value : List ℕ → Type 0
Value b = (length b ≤ longest_value) × Bytes b

abbrev pub Argument : List ℕ → Type 0
Argument w = (b : List ℕ) × Value b × (w ≡ argument_text b)

-- k arguments
abbrev pub Rows : ℕ → List ℕ → Type 0
Rows k w = (bs : Arguments) × (length bs ≡ k) × AllByRecursion Value bs × (w ≡ flat_map argument_text bs)

abbrev pub Requests : List ℕ → Type 0
Requests w = (args : Arguments) × Lawful args × (w ≡ request_text args)

-- ---- arguments and requests

-- an argument was passed, and p is where its bytes stand
pub record Put (old new : Reader) (p : Part) : Type 0 where
  pub value : Value (cut old.bytes.now p)
  pub place : p.place ≡ old.at + length (length_line p.size)
  pub size : p.size ≡ length (cut old.bytes.now p)
  pub passed : Passed old new (argument_text (cut old.bytes.now p))

-- as many arguments as parts were passed, and the parts are where their bytes stand
pub record PutAll (old new : Reader) (parts : List Part) : Type 0 where
  pub values : AllByRecursion Value (map (cut old.bytes.now) parts)
  pub placed : parts ≡ parts_from old.at (map (cut old.bytes.now) parts)
  pub passed : Passed old new (flat_map argument_text (map (cut old.bytes.now) parts))

-- a request was passed, and q tells it
pub record Read (old new : Reader) (q : Request) : Type 0 where
  pub same : q.bytes.now ≡ old.bytes.now
  pub count : q.count ≡ length (arguments q)
  pub lawful : Lawful (arguments q)
  pub placed : parts_in q ≡ parts_from (old.at + length (count_line (length (arguments q)))) (arguments q)
  pub passed : Passed old new (request_text (arguments q))
  pub span : q.span ≡ new.at
