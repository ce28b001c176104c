-- An output with a place: where it stands after a write.
use Rattle.std.specs.Prelude.{◌≡◌, ℕ, ◌+◌, List, length, Option, unwrap_or}
use Rattle.reply.specs.declared.Writer.{Writer}
use Rattle.reply.specs.Written.{over}

-- it is over the same output, and the place has moved by the bytes written
pub record Moves (before after : Writer) (result : Option ℕ) : Type 0 where
  pub same_output : after.out.ghost_name ≡ before.out.ghost_name
  pub place : after.place ≡ before.place + unwrap_or result 0

-- bytes stand where the place was, and the place is behind them
pub record Lays (bytes : List ℕ) (before after : Writer) : Type 0 where
  pub same_output : after.out.ghost_name ≡ before.out.ghost_name
  pub place : after.place ≡ before.place + length bytes
  pub laid : after.out.now ≡ over before.out.now before.place bytes
