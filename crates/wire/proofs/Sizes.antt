-- Bytes by their number, with CR LF behind them.
use Rattle.std.proofs.Common.{◌≡◌, ℕ, suc, ◌-◌, ◌<◌, List, [], ◌∷◌, ◌++◌, length, get_or, take, replicate, sym, refl, ap, ◌∙◌, append_assoc, arith, length-append}
use Rattle.std.proofs.lemmas.List.Elements.{All-replicate, All-append, All-from_recursion, recursion_from_All}
use Rattle.std.proofs.lemmas.List.{length-replicate, take_at}
use Rattle.wire.specs.Texts.{Short}
use Rattle.wire.specs.Steps.{crlf, Byte, Bytes, Just, Sized, Filled}
use Rattle.wire.proofs.Sets.{Front, Back}

pub bytes_from : (s : List ℕ) → ((i : ℕ) → get_or s i 0 < 256) → Bytes s
bytes_from [] h = tt
bytes_from (x ∷ s) h = (h 0, bytes_from s (λ i. h (suc i)))

pub zeros : (n : ℕ) → Bytes (replicate n 0)
zeros n = recursion_from_All Byte (replicate n 0) (All-replicate Byte n 0 (omega arith))

pub sized_short : (n : ℕ) (s : List ℕ) → Bytes s → length s < n → Short (Sized n) s
sized_short n s bytes h =
    let m = n - length s - 1 in
    let k : length (replicate {A = ℕ} m 0) ≡ m = length-replicate m 0 in
    record {
      word = s ++ (0 ∷ replicate m 0);
      lawful = (length-append s (0 ∷ replicate m 0) ∙ (omega arith), recursion_from_All Byte _ (All-append Byte s (0 ∷ replicate m 0) (All-from_recursion Byte s bytes) (All-replicate Byte (suc m) 0 (omega arith))));
      next = 0;
      rest = replicate m 0;
      split = refl;
    }

pub front_filled : (n : ℕ) (s : List ℕ) → Front (Filled n) (Sized n) s
front_filled n s = record { grows = λ v l. (crlf, (v, l, refl)); parts = λ w l. (l.0, crlf, l.1, l.2) }

pub same_front : (xs ys s t : List ℕ) → length xs ≡ length ys → xs ++ s ≡ ys ++ t → xs ≡ ys
same_front xs ys s t l e = sym (take_at xs s (length ys) l) ∙ ap (take (length ys)) e ∙ take_at ys t (length ys) refl

pub filled_free : (b t y r : List ℕ) → length b ≡ length t → (b ++ crlf) ++ y ≡ t ++ r → b ≡ t
filled_free b t y r l e = same_front b t (crlf ++ y) r l (sym (append_assoc b crlf y) ∙ e)

pub back_filled : (n : ℕ) (b s : List ℕ) → Sized n b → Back (Filled n) (Just crlf) b s
back_filled n b s h =
    record {
      joins = λ v e. (b, h, ap (λ l. b ++ l) e);
      leads = λ c r at w t r' l e.
          let same = filled_free l.0 b t (c ∷ r') (l.1.0 ∙ sym h.0) (ap (λ x. x ++ t) (sym l.2) ∙ e) in
          (crlf, refl, l.2 ∙ ap (λ x. x ++ crlf) same);
    }
