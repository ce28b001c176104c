-- Bytes laid one after another.
use Rattle.std.proofs.Common.{◌≡◌, ℕ, ◌+◌, ◌≤◌, List, ◌++◌, length, take, decimal, sym, subst, ap, ◌∙◌, arith, length-append}
use Rattle.std.proofs.lemmas.List.{take_at}
use Rattle.reply.specs.Replies.{line}
use Rattle.wire.specs.Steps.{crlf}
use Rattle.reply.specs.declared.Writer.{Writer}
use Rattle.reply.specs.Written.{over}
use Rattle.reply.specs.Writers.{Lays}
use Rattle.reply.proofs.Overs.{over_long, over_over}

pub lays_long : (u : List ℕ) (a b : Writer) → a.place + length u ≤ length a.out.now → Lays u a b → length b.out.now ≡ length a.out.now
lays_long u a b h l = ap length l.laid ∙ over_long a.out.now a.place u h

pub lays_more : (u v : List ℕ) (a b c : Writer) → a.place + length u ≤ length a.out.now → Lays u a b → Lays v b c → Lays (u ++ v) a c
lays_more u v a b c h l m = record {
  same_output = m.same_output ∙ l.same_output;
  place = omega (arith, l.place, m.place, length-append u v);
  laid = m.laid ∙ ap (λ xs. over xs b.place v) l.laid ∙ ap (λ n. over (over a.out.now a.place u) n v) l.place ∙ over_over a.out.now a.place u v h;
}

-- a bulk string's first line, whose digits stand at the front of a buffer, and room for the rest behind it
pub lays_count : (w digits rest : List ℕ) (n : ℕ) (a b : Writer) → digits ≡ decimal (length w) ++ rest → n ≡ length (decimal (length w)) → a.place + (n + length w + 5) ≤ length a.out.now
    → Lays (line 36 (take n digits)) a b → Lays (line 36 (decimal (length w))) a b × (b.place + length w + 2 ≤ length b.out.now)
lays_count w digits rest n a b e k h l =
    let head = line 36 (decimal (length w)) in
    let s = length-append (decimal (length w)) crlf in
    let m : Lays head a b = subst (λ t. Lays (line 36 t) a b) (ap (take n) e ∙ take_at (decimal (length w)) rest n (sym k)) l in
    (m, omega (arith, m.place, lays_long head a b (omega arith) m))

-- and its bytes
pub lays_bytes : (w digits rest : List ℕ) (n : ℕ) (a b c : Writer) → digits ≡ decimal (length w) ++ rest → n ≡ length (decimal (length w)) → a.place + (n + length w + 5) ≤ length a.out.now
    → Lays (line 36 (take n digits)) a b → Lays w b c → Lays (line 36 (decimal (length w)) ++ w) a c × (c.place + 2 ≤ length c.out.now) × (a.place + length (line 36 (decimal (length w)) ++ w) ≤ length a.out.now)
lays_bytes w digits rest n a b c e k h l m =
    let head = line 36 (decimal (length w)) in
    let s = length-append (decimal (length w)) crlf in
    let t = length-append head w in
    let f = lays_count w digits rest n a b e k h l in
    (lays_more head w a b c (omega arith) f.0 m, omega (arith, f.1, m.place, lays_long w b c (omega (arith, f.1)) m), omega arith)
