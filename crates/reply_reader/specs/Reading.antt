-- What a value that was read stands for, and what an answer says of the bytes.
use Rattle.std.specs.Prelude.{◌≡◌, ℕ, suc, ◌⊎◌, List, [], ◌++◌, length, Some, None, Option, Result, MatchResult}
use Rattle.reply.specs.Replies.{Reply, Replies, text, error, integer, bulk, nil, nil_array, array, count, bytes_of, row_of, Lawful, deepest}
use Rattle.wire.specs.Texts.{Begins}
pub use Rattle.wire.specs.Steps.{Refused}
use Rattle.wire.specs.declared.stop.ReadError.{ReadError}
use Rattle.reply_reader.specs.declared.Value.{Value}
use Rattle.reply_reader.specs.declared.Value.TheVariants.{Text, Error, Integer, Bulk, Nil, NilArray, Array}
use Rattle.reply_reader.specs.declared.FirstReply.{FirstReply}
use Rattle.reply_reader.specs.declared.Elements.{Elements}

-- the bytes of lawful replies, where d arrays may lie inside one another
abbrev pub Says : ℕ → List ℕ → Type 0
Says d w = (v : Reply) × Lawful v d × (w ≡ bytes_of v)

-- the value that was read stands for v
abbrev pub Means : Value → Reply → Type 0
Means (Text t) v = v ≡ text t.now
Means (Error t) v = v ≡ error t.now
Means (Integer z) v = v ≡ integer z
Means (Bulk b) v = v ≡ bulk b.now
Means Nil v = v ≡ nil
Means NilArray v = v ≡ nil_array
Means (Array part n) v = (vs : Replies) × (v ≡ array vs) × (n ≡ count vs) × (part.now ≡ row_of vs)

-- the bytes of a lawful reply come first in s, and it has so many
abbrev pub Takes : ℕ → List ℕ → FirstReply → Type 0
Takes d s f = (v : Reply) × Lawful v d × Means f.value v × Begins (bytes_of v) s × (f.size ≡ length (bytes_of v))

-- an answer is right
abbrev pub AnswersTo : ℕ → List ℕ → Result FirstReply ReadError → Type 0
AnswersTo d s r = MatchResult r (Takes d s) (Refused (Says d) s)

abbrev pub Answers : List ℕ → Result FirstReply ReadError → Type 0
Answers s a = AnswersTo deepest s a

-- no lawful reply comes first
abbrev pub NoReply : List ℕ → Type 0
NoReply s = (v : Reply) → Lawful v deepest → Begins (bytes_of v) s → ⊥

-- what is to be read of a value's elements
abbrev pub Gives : Value → Elements → Type 0
Gives (Text t) e = (e.left ≡ 0) × (e.rest.now ≡ [])
Gives (Error t) e = (e.left ≡ 0) × (e.rest.now ≡ [])
Gives (Integer z) e = (e.left ≡ 0) × (e.rest.now ≡ [])
Gives (Bulk b) e = (e.left ≡ 0) × (e.rest.now ≡ [])
Gives Nil e = (e.left ≡ 0) × (e.rest.now ≡ [])
Gives NilArray e = (e.left ≡ 0) × (e.rest.now ≡ [])
Gives (Array part n) e = (e.left ≡ n) × (e.rest.now ≡ part.now)

-- a reply was read, and the rest is left; or there was none to read, and nothing has changed
abbrev pub Next : Elements → Option Value → Elements → Type 0
Next e (Some x) after = (v : Reply) × Lawful v deepest × Means x v × (e.rest.now ≡ bytes_of v ++ after.rest.now) × (e.left ≡ suc after.left)
Next e None after = ((e.left ≡ 0) ⊎ NoReply e.rest.now) × (after.rest.now ≡ e.rest.now) × (after.left ≡ e.left)
