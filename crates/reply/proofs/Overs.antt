-- Writes one after another.
use Rattle.std.proofs.Common.{◌≡◌, ℕ, ◌+◌, ◌-◌, ◌≤◌, List, [], ◌++◌, length, take, drop, Some, sym, ap, ◌∙◌, append_assoc, add-zero, refl, add_assoc, arith, length-append, length-drop, take-append-drop, length-take}
use Rattle.std.proofs.Math.Nat.{sub-zero}
use Rattle.std.proofs.lemmas.List.{drop-drop, take_at, drop_at, length-take-le}
use Rattle.reply.specs.Replies.{Replies, array, none, then, count, bytes_of, row_of, heading}
use Rattle.reply.specs.Written.{over, Headed, RowWrote, WriteLaws}

pub over_long : (out : List ℕ) (at : ℕ) (w : List ℕ) → at + length w ≤ length out → length (over out at w) ≡ length out
unfolding over
over_long out at w h = simp (length-append, length-take, length-drop) (omega arith)

-- one write right after another is one write
pub over_over : (out : List ℕ) (at : ℕ) (u v : List ℕ) → at + length u ≤ length out → over (over out at u) (at + length u) v ≡ over out at (u ++ v)
unfolding over
over_over out at u v h =
    let front : length (take at out ++ u) ≡ at + length u = length-append (take at out) u ∙ ap (λ n. n + length u) (length-take-le at out (omega arith)) in
    let tail = drop (at + length u) out in
    let whole : over out at u ≡ (take at out ++ u) ++ tail = sym (append_assoc (take at out) u tail) in
    let before : take (at + length u) (over out at u) ≡ take at out ++ u = ap (take (at + length u)) whole ∙ take_at (take at out ++ u) tail (at + length u) front in
    let behind : drop (at + length u) (over out at u) ≡ tail = ap (drop (at + length u)) whole ∙ drop_at (take at out ++ u) tail (at + length u) front in
    let past : drop (at + length u + length v) (over out at u) ≡ drop (at + length (u ++ v)) out =
    sym (drop-drop (length v) (at + length u) (over out at u)) ∙ ap (drop (length v)) behind ∙ drop-drop (length v) (at + length u) out ∙ ap (λ n. drop n out) (add_assoc at (length u) (length v) ∙ ap (λ n. at + n) (sym (length-append u v))) in
    ap (λ l. l ++ (v ++ drop (at + length u + length v) (over out at u))) before
    ∙ ap (λ l. (take at out ++ u) ++ (v ++ l)) past
    ∙ append_assoc (take at out) u (v ++ drop (at + length (u ++ v)) out)
    ∙ ap (λ l. take at out ++ l) (sym (append_assoc u v (drop (at + length (u ++ v)) out)))

before : (out : List ℕ) (at : ℕ) (w : List ℕ) → at ≤ length out → take at (over out at w) ≡ take at out
unfolding over
before out at w h = take_at (take at out) (w ++ drop (at + length w) out) at (length-take-le at out h)

pub from : (out : List ℕ) (at : ℕ) (w : List ℕ) → at ≤ length out → drop at (over out at w) ≡ w ++ drop (at + length w) out
unfolding over
from out at w h = drop_at (take at out) (w ++ drop (at + length w) out) at (length-take-le at out h)

nothing : (out : List ℕ) (at : ℕ) → over out at [] ≡ out
unfolding over
nothing out at = ap (λ n. take at out ++ drop n out) (add-zero at) ∙ take-append-drop at out

rows : (vs : Replies) (out after : List ℕ) (at end : ℕ) → at ≤ length out → RowWrote vs out at end after → (end ≡ at + length (row_of vs)) × (end ≤ length out) × (after ≡ over out at (row_of vs))
rows none out after at end h w = (omega (arith, w.0), omega (arith, w.0), w.1 ∙ sym (nothing out at))
rows (then v vs) out after at end h w =
    let n = w.0 in
    let mid = w.1 in
    let head = w.2 in
    let long : length mid ≡ length out = ap length head.3 ∙ over_long out at (bytes_of v) (omega (arith, head.1, head.2)) in
    let more = rows vs mid after (at + n) end (omega (arith, head.2)) w.3 in
    let both : length (bytes_of v ++ row_of vs) ≡ length (bytes_of v) + length (row_of vs) = length-append (bytes_of v) (row_of vs) in (
      omega (arith, more.0, head.1),
      omega (arith, more.1),
      more.2 ∙ ap (λ l. over l (at + n) (row_of vs)) head.3 ∙ ap (λ k. over (over out at (bytes_of v)) (at + k) (row_of vs)) head.1 ∙ over_over out at (bytes_of v) (row_of vs) (omega (arith, head.1, head.2)),
    )

pub arrays : (vs : Replies) (out mid after : List ℕ) (at n end : ℕ) → Headed (count vs) out at (Some n) mid → RowWrote vs mid (at + n) end after → (end ≡ at + length (bytes_of (array vs))) × (end ≤ length out) × (after ≡ over out at (bytes_of (array vs)))
arrays vs out mid after at n end head w =
    let first = heading (count vs) in
    let long : length mid ≡ length out = ap length head.3 ∙ over_long out at first (omega (arith, head.1, head.2)) in
    let more = rows vs mid after (at + n) end (omega (arith, head.2)) w in
    let both : length (first ++ row_of vs) ≡ length first + length (row_of vs) = length-append first (row_of vs) in (
      omega (arith, more.0, head.1),
      omega (arith, more.1),
      more.2 ∙ ap (λ l. over l (at + n) (row_of vs)) head.3 ∙ ap (λ k. over (over out at first) (at + k) (row_of vs)) head.1 ∙ over_over out at first (row_of vs) (omega (arith, head.1, head.2)),
    )

pub write_laws : WriteLaws
write_laws = record { before = before; from = from; joins = over_over; arrays = arrays }

-- the front of a line of digits
pub front_of : (ds rest all : List ℕ) (n : ℕ) → all ≡ ds ++ rest → n ≡ length ds → take (n - 0) all ≡ ds
front_of ds rest all n e h = ap (λ k. take k all) (sub-zero n ∙ h) ∙ ap (take (length ds)) e ∙ take_at ds rest (length ds) refl
