-- What each step of the reader says of the bytes that it is given.
use Rattle.std.specs.Prelude.{◌≡◌, ℕ, ◌≤◌, ◌⊎◌, List, ◌∷◌, ◌++◌, length, take, drop, ℤ, Some, None, decimal, Option, Result, MatchResult, FitsSigned, ◌≢◌}
use Rattle.std.specs.Int.{w64}
use Rattle.std.specs.List.{AllByRecursion}
use Rattle.std.specs.Fmt.{signed_decimal}
use Rattle.std.specs.Borrow.{Bor}
use Rattle.reply.specs.Replies.{Reply, Replies, count, bytes_of, row_of, Lawful, EachLawful, nil_text, Letter, Text}
use Rattle.reply_reader.specs.Reading.{Says, Means}
use Rattle.reply_reader.specs.declared.Found.{Found}
pub use Rattle.wire.specs.Steps.{Stopped, Just, Between, Number, NoDigit, Ends, Sized, Filled}
use Rattle.wire.specs.Steps.{crlf}
use Rattle.wire.specs.declared.stop.Stop.{Stop}
use Rattle.reply_reader.specs.declared.Value.{Value}

-- no minus comes first
abbrev pub NoMinus : List ℕ → Type 0
NoMinus s = (r : List ℕ) → s ≢ 45 ∷ r

-- an integer and CR LF
abbrev pub Integers : List ℕ → Type 0
Integers w = (z : ℤ) × FitsSigned w64 z × (w ≡ signed_decimal z ++ crlf)

-- a number, or -1, and CR LF
abbrev pub Heads : ℕ → ℕ → List ℕ → Type 0
Heads low high w = Number low high w ⊎ (w ≡ nil_text ++ crlf)

-- what was passed of those, and the rest
abbrev pub Head : ℕ → ℕ → List ℕ → Option ℕ → List ℕ → Type 0
Head low high s (Some n) rest = Between low high n × (s ≡ (decimal n ++ crlf) ++ rest)
Head low high s None rest = s ≡ (nil_text ++ crlf) ++ rest

-- the first k bytes of s are the most that a text of up to `most` bytes can begin with
pub record Run (most : ℕ) (s : List ℕ) (k : ℕ) : Type 0 where
  pub within : k ≤ length s
  pub short : k ≤ most
  pub letters : AllByRecursion Letter (take k s)
  pub ends : (c : ℕ) (r : List ℕ) → drop k s ≡ c ∷ r → Letter c → k ≡ most

-- a text and CR LF
abbrev pub Texts : List ℕ → Type 0
Texts w = (t : List ℕ) × Text t × (w ≡ t ++ crlf)

-- a text was read, of which a value was made
abbrev pub TextSaid : (Bor (List ℕ) → Value → Type 0) → List ℕ → Found → Type 0
TextSaid made s f = (t : Bor (List ℕ)) × Text t.now × made t f.value × (s ≡ (t.now ++ crlf) ++ f.rest.now)

-- a lawful value was read, and what stands behind it
abbrev pub Finds : ℕ → List ℕ → Found → Type 0
Finds d s f = (v : Reply) × Lawful v d × Means f.value v × (s ≡ bytes_of v ++ f.rest.now)

-- what stands behind the mark of a value
abbrev pub After : ℕ → ℕ → List ℕ → Type 0
After mark d w = Says d (mark ∷ w)

-- what came of reading a value behind its mark
abbrev pub Came : ℕ → ℕ → List ℕ → Result Found Stop → Type 0
Came mark d s r = MatchResult r (λ f. Finds d (mark ∷ s) f) (λ e. Stopped (After mark d) s e)

-- n lawful values one after another
abbrev pub Rows : ℕ → ℕ → List ℕ → Type 0
Rows d n w = (vs : Replies) × (count vs ≡ n) × EachLawful vs d × (w ≡ row_of vs)
