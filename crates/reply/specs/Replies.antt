-- What the server says: reply values, the bytes of each, and which values are lawful.
use Rattle.std.specs.Prelude.{ℕ, zero, suc, ◌≤◌, List, [], ◌∷◌, ◌++◌, length, ℤ, decimal, FitsSigned, ◌≢◌}
use Rattle.std.specs.Int.{w64}
use Rattle.std.specs.List.{AllByRecursion}
use Rattle.std.specs.Fmt.{signed_decimal}
pub use Rattle.wire.specs.Steps.{crlf, Byte, Bytes}

-- the most bytes of a text, and of a bulk string
abbrev pub longest_text : ℕ
longest_text = 100

abbrev pub longest_bulk : ℕ
longest_bulk = 64

-- the most elements of an array
abbrev pub most_elements : ℕ
most_elements = 4096

-- how many arrays may lie inside one another, the outermost included
abbrev pub deepest : ℕ
deepest = 4

mutual
  -- a reply value
  pub data Reply : Type 0 where
    text : List ℕ → Reply
    error : List ℕ → Reply
    integer : ℤ → Reply
    bulk : List ℕ → Reply
    nil : Reply
    nil_array : Reply
    array : Replies → Reply

  -- the elements of an array, in their order
  pub data Replies : Type 0 where
    none : Replies
    then : Reply → Replies → Replies

abbrev pub count : Replies → ℕ
count none = 0
count (then v vs) = suc (count vs)

-- a line: its mark, its text, CR LF
abbrev pub line : ℕ → List ℕ → List ℕ
line mark t = mark ∷ (t ++ crlf)

-- what stands before the elements of an array: `*n` CR LF
abbrev pub heading : ℕ → List ℕ
heading n = line 42 (decimal n)

-- the text of both nils: -1
abbrev pub nil_text : List ℕ
nil_text = 45 ∷ 49 ∷ []

abbrev mutual
  -- the bytes of a value
  pub bytes_of : Reply → List ℕ
  bytes_of (text t) = line 43 t
  bytes_of (error t) = line 45 t
  bytes_of (integer z) = line 58 (signed_decimal z)
  bytes_of (bulk b) = line 36 (decimal (length b)) ++ (b ++ crlf)
  bytes_of nil = line 36 nil_text
  bytes_of nil_array = line 42 nil_text
  bytes_of (array vs) = heading (count vs) ++ row_of vs

  -- the bytes of values one after another
  pub row_of : Replies → List ℕ
  row_of none = []
  row_of (then v vs) = bytes_of v ++ row_of vs

-- a byte that a text may hold: neither CR nor LF
abbrev pub Letter : ℕ → Type 0
Letter b = Byte b × (b ≢ 13) × (b ≢ 10)

-- a text that fits into a line
abbrev pub Text : List ℕ → Type 0
Text t = (length t ≤ longest_text) × AllByRecursion Letter t

-- bytes that fit into a bulk string
abbrev pub Bulk : List ℕ → Type 0
Bulk b = (length b ≤ longest_bulk) × Bytes b

abbrev mutual
  -- a value within its limits, where d arrays may lie inside one another; a nil array counts as one
  pub Lawful : Reply → ℕ → Type 0
  Lawful (text t) d = Text t
  Lawful (error t) d = Text t
  Lawful (integer z) d = FitsSigned w64 z
  Lawful (bulk b) d = Bulk b
  Lawful nil d = Unit {0}
  Lawful nil_array d = 1 ≤ d
  Lawful (array vs) zero = ⊥
  Lawful (array vs) (suc d) = (count vs ≤ most_elements) × EachLawful vs d

  pub EachLawful : Replies → ℕ → Type 0
  EachLawful none d = Unit {0}
  EachLawful (then v vs) d = Lawful v d × EachLawful vs d
