-- What a writer leaves: the bytes of a value at a place of the output, or the output as it was.
use Rattle.std.specs.Prelude.{◌≡◌, ℕ, ◌+◌, ◌<◌, ◌≤◌, List, ◌++◌, length, take, drop, Some, None, Option}
use Rattle.reply.specs.Replies.{Reply, Replies, array, none, then, count, bytes_of, heading, Lawful, most_elements, deepest}

-- out with w at a place, and as it was before and after that
unfoldable pub over : List ℕ → ℕ → List ℕ → List ℕ
over out at w = take at out ++ (w ++ drop (at + length w) out)

-- w was written at a place and its length told; or nothing was, where w may not be written or there is no room for it
abbrev pub Put : Type 0 → List ℕ → List ℕ → ℕ → Option ℕ → List ℕ → Type 0
Put May w out at (Some n) after = May × (n ≡ length w) × (at + n ≤ length out) × (after ≡ over out at w)
Put May w out at None after = (May → length out < at + length w) × (after ≡ out)

-- the same of the bytes of a value, which is written only if it is lawful
abbrev pub Wrote : Reply → List ℕ → ℕ → Option ℕ → List ℕ → Type 0
Wrote v out at r after = Put (Lawful v deepest) (bytes_of v) out at r after

-- the same of what stands before n elements
abbrev pub Headed : ℕ → List ℕ → ℕ → Option ℕ → List ℕ → Type 0
Headed n out at r after = Put (n ≤ most_elements) (heading n) out at r after

-- values were written from a place on, each right behind the one before it; they end at another
abbrev pub RowWrote : Replies → List ℕ → ℕ → ℕ → List ℕ → Type 0
RowWrote none out at end after = (end ≡ at) × (after ≡ out)
RowWrote (then v vs) out at end after = (n : ℕ) × (mid : List ℕ) × Wrote v out at (Some n) mid × RowWrote vs mid (at + n) end after

-- what can be relied on of writes without a look at `over`
pub record WriteLaws : Type 0 where
  -- what stands before the place stays, and from there on stand the bytes written, and behind them what stood there
  pub before : (out : List ℕ) (at : ℕ) (w : List ℕ) → at ≤ length out → take at (over out at w) ≡ take at out
  pub from : (out : List ℕ) (at : ℕ) (w : List ℕ) → at ≤ length out → drop at (over out at w) ≡ w ++ drop (at + length w) out
  -- one write right behind another is one write
  pub joins : (out : List ℕ) (at : ℕ) (u w : List ℕ) → at + length u ≤ length out → over (over out at u) (at + length u) w ≡ over out at (u ++ w)
  -- what stands before elements, and then the elements, are an array
  pub arrays : (vs : Replies) (out mid after : List ℕ) (at n end : ℕ) → Headed (count vs) out at (Some n) mid → RowWrote vs mid (at + n) end after →
      (end ≡ at + length (bytes_of (array vs))) × (end ≤ length out) × (after ≡ over out at (bytes_of (array vs)))
