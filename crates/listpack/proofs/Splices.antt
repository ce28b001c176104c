-- What the writes to the bytes of a listpack leave.
use Rattle.std.proofs.Common.{◌≡◌, ℕ, ◌+◌, ◌-◌, ◌≤◌, List, ◌++◌, length, take, drop, sym, ap, ◌∙◌, append_assoc, arith}
use borrow.Rule.Slice.PartMut.{put_mid}
use Rattle.std.proofs.Math.Seq.{paste}
use Rattle.std.proofs.lemmas.List.{length-append, length-drop, length-take-le, take-append-le, take_at, take-take, drop_at, drop-drop}
use Rattle.std.proofs.lemmas.Slice.{between_is}
use Rattle.listpack.specs.Places.{spliced}

module _ (bytes new : List ℕ) (from to end : ℕ) (order : from ≤ to) (within : to ≤ end) (long : end ≤ length bytes) (room : from + length new + (end - to) ≤ length bytes) where
  -- what is moved along, and what stays behind it
  moved : List ℕ
  moved = take (end - to) (drop to bytes)

  rest : List ℕ
  rest = drop (from + length new + (end - to)) bytes

  length_moved : length moved ≡ end - to
  unfolding moved
  length_moved = length-take-le (end - to) (drop to bytes) (omega (arith, length-drop to bytes))

  -- the bytes after the move, up to the new ones and behind them
  pub splice_leaves : (shifted mid : List ℕ) → shifted ≡ paste bytes (from + length new) (drop to bytes) (end - to) → mid ≡ new
      → take (from + length new + (end - to)) (put_mid from (from + length new - from) shifted mid) ≡ spliced (take end bytes) from to new
  unfolding moved rest
  splice_leaves shifted mid e m =
      let a = from + length new in
      let la = length-take-le a bytes (omega arith) in
      let s : shifted ≡ take a bytes ++ (moved ++ rest) = e ∙ append_assoc (take a bytes) moved rest in
      let f : take from shifted ≡ take from bytes = ap (take from) s ∙ take-append-le from (take a bytes) (moved ++ rest) (omega arith) ∙ take-take from a bytes (omega arith) in
      let k : from + (a - from) ≡ a = omega arith in
      let b : drop (a - from) (drop from shifted) ≡ moved ++ rest = drop-drop (a - from) from shifted ∙ ap (λ n. drop n shifted) k ∙ ap (drop a) s ∙ drop_at (take a bytes) (moved ++ rest) a la in
      let p : put_mid from (a - from) shifted mid ≡ (take from bytes ++ (new ++ moved)) ++ rest =
      (λ j. f j ++ (m j ++ b j)) ∙ ap (λ bs. take from bytes ++ bs) (sym (append_assoc new moved rest)) ∙ sym (append_assoc (take from bytes) (new ++ moved) rest) in
      let l : length (take from bytes ++ (new ++ moved)) ≡ a + (end - to) = omega (arith, length-append (take from bytes) (new ++ moved), length-append new moved, length_moved, length-take-le from bytes (omega arith)) in
      ap (take (a + (end - to))) p ∙ take_at (take from bytes ++ (new ++ moved)) rest (a + (end - to)) l
      ∙ (λ j. sym (take-take from end bytes (omega arith)) j ++ (new ++ between_is bytes to end j))
