-- What can be relied on of the answers: each is the only one, what is written is read back, and elements come in their order.
use Rattle.std.specs.Prelude.{◌≡◌, ℕ, ◌+◌, ◌-◌, List, ◌++◌, length, drop, Some, None, Option, Ok, Result}
use Rattle.reply.specs.Replies.{Reply, Replies, text, error, integer, bulk, nil, nil_array, array, none, then, count, bytes_of, row_of, Lawful, EachLawful, deepest}
use Rattle.reply.specs.Written.{Wrote, Headed, RowWrote}
use Rattle.wire.specs.Texts.{Begins, Short, Strays}
use Rattle.reply_reader.specs.Reading.{Says, Means, Answers, Gives, Next}
use Rattle.reply_reader.specs.declared.Value.{Value}
use Rattle.reply_reader.specs.declared.FirstReply.{FirstReply}
use Rattle.wire.specs.declared.stop.ReadError.{ReadError}
use Rattle.reply_reader.specs.declared.Elements.{Elements}

-- of any bytes, at most one answer is right
pub record Settled (s : List ℕ) : Type 0 where
  pub took : (v u : Reply) → Lawful v deepest → Lawful u deepest → Begins (bytes_of v) s → Begins (bytes_of u) s → v ≡ u
  pub took_more : (v : Reply) → Lawful v deepest → Begins (bytes_of v) s → Short (Says deepest) s → ⊥
  pub took_fault : (v : Reply) (p : ℕ) → Lawful v deepest → Begins (bytes_of v) s → Strays (Says deepest) s p → ⊥
  pub more_fault : (p : ℕ) → Short (Says deepest) s → Strays (Says deepest) s p → ⊥
  pub fault : (p q : ℕ) → Strays (Says deepest) s p → Strays (Says deepest) s q → p ≡ q

-- the answer is v, which has n bytes
abbrev pub Back : Reply → ℕ → Result FirstReply ReadError → Type 0
Back v n a = (x : Value) × (a ≡ Ok (record { value = x; size = n })) × Means x v

-- the round trip
pub record ReadsBack : Type 0 where
  -- a lawful reply is read back, whatever follows it
  pub whole : (v : Reply) (rest : List ℕ) (a : Result FirstReply ReadError) → Lawful v deepest → Answers (bytes_of v ++ rest) a → Back v (length (bytes_of v)) a
  -- so is one that was written into an output, from the place where it was written
  pub written : (v : Reply) (out after : List ℕ) (at n : ℕ) (a : Result FirstReply ReadError) → Wrote v out at (Some n) after → Answers (drop at after) a → Back v n a
  -- and an array whose elements were written right behind what stands before them
  pub in_parts : (vs : Replies) (out mid after : List ℕ) (at n end : ℕ) (a : Result FirstReply ReadError) → Lawful (array vs) deepest → Headed (count vs) out at (Some n) mid → RowWrote vs mid (at + n) end after →
      Answers (drop at after) a → Back (array vs) (end - at) a

-- the elements of a value
abbrev pub elements_of : Reply → Replies
elements_of (text t) = none
elements_of (error t) = none
elements_of (integer z) = none
elements_of (bulk b) = none
elements_of nil = none
elements_of nil_array = none
elements_of (array vs) = vs

-- the elements still to be read are vs
pub record Comes (e : Elements) (vs : Replies) : Type 0 where
  pub counted : e.left ≡ count vs
  pub bytes : e.rest.now ≡ row_of vs
  pub lawful : EachLawful vs deepest

pub record ElementLaws : Type 0 where
  -- what is given of a value that was read are its elements
  pub gives : (x : Value) (v : Reply) (e : Elements) → Lawful v deepest → Means x v → Gives x e → Comes e (elements_of v)
  -- each turn reads the first of those still to come, and leaves the others
  pub turn : (e after : Elements) (r : Option Value) (v : Reply) (vs : Replies) → Comes e (then v vs) → Next e r after → (x : Value) × (r ≡ Some x) × Means x v × Comes after vs
  -- and none at the end
  pub ends : (e after : Elements) (r : Option Value) → Comes e none → Next e r after → r ≡ None
