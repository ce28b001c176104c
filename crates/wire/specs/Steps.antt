-- What each step says of the bytes that it is given.
use Rattle.std.specs.Prelude.{◌≡◌, ℕ, ◌+◌, ◌<◌, ◌≤◌, List, [], ◌∷◌, ◌++◌, length, decimal, ◌≢◌}
use Rattle.std.specs.List.{AllByRecursion}
use Rattle.wire.specs.Texts.{Short, Strays}
use Rattle.wire.specs.declared.stop.Stop.{Stop}
use Rattle.wire.specs.declared.stop.Stop.TheVariants.{Short as Ended, At}
use Rattle.wire.specs.declared.stop.ReadError.{ReadError}
use Rattle.wire.specs.declared.stop.ReadError.TheVariants.{More, Fault}

-- why no text of L begins s: s is a proper beginning of one; or s leaves all of them after p bytes
abbrev pub Refused : (List ℕ → Type 0) → List ℕ → ReadError → Type 0
Refused L s More = Short L s
Refused L s (Fault p) = Strays L s p

-- the same of a step; a stop tells how many bytes there are from the one that strays on
abbrev pub Stopped : (List ℕ → Type 0) → List ℕ → Stop → Type 0
Stopped L s Ended = Short L s
Stopped L s (At k) = (p : ℕ) × (p + k ≡ length s) × Strays L s p

-- CR LF
abbrev pub crlf : List ℕ
crlf = 13 ∷ 10 ∷ []

-- a byte
abbrev pub Byte : ℕ → Type 0
Byte b = b < 256

abbrev pub Bytes : List ℕ → Type 0
Bytes s = AllByRecursion Byte s

-- just one text
abbrev pub Just : List ℕ → List ℕ → Type 0
Just v w = w ≡ v

abbrev pub Between : ℕ → ℕ → ℕ → Type 0
Between low high n = (low ≤ n) × (n ≤ high)

-- a number and CR LF
abbrev pub Number : ℕ → ℕ → List ℕ → Type 0
Number low high w = (n : ℕ) × Between low high n × (w ≡ decimal n ++ crlf)

-- no digit comes first
abbrev pub NoDigit : List ℕ → Type 0
NoDigit s = (c : ℕ) (r : List ℕ) → s ≡ c ∷ r → 48 ≤ c → c ≤ 57 → ⊥

-- no number up to high begins with the digits of n and the first byte of s
abbrev pub Ends : ℕ → ℕ → List ℕ → Type 0
Ends high n s = (c : ℕ) (r : List ℕ) → s ≡ c ∷ r → (m : ℕ) → m ≤ high → (d : List ℕ) → decimal m ≢ decimal n ++ (c ∷ d)

-- n bytes
abbrev pub Sized : ℕ → List ℕ → Type 0
Sized n b = (length b ≡ n) × Bytes b

-- n bytes and CR LF
abbrev pub Filled : ℕ → List ℕ → Type 0
Filled n w = (b : List ℕ) × Sized n b × (w ≡ b ++ crlf)
