-- What a reader has passed.
use Rattle.std.proofs.Common.{◌≡◌, ℕ, ◌+◌, ◌-◌, List, [], ◌++◌, length, drop, sym, refl, ap, ◌∙◌, append_assoc, add-zero, add_assoc, arith, length-append, length-drop}
use Rattle.std.proofs.lemmas.List.{drop-drop, drop_at}
use Rattle.wire.specs.declared.stop.Stop.{Stop}
use Rattle.wire.proofs.Sets.{Back, back}
use Rattle.request.specs.Steps.{left, Passed, Stuck}
use Rattle.request.specs.declared.reader.Reader.{Reader}

-- where what stands behind w begins
module _ (old : Reader) (w rest : List ℕ) (h : left old ≡ w ++ rest) where
  pub place_is : length old.bytes.now - length rest ≡ old.at + length w
  place_is = omega (arith, ap length h, length-append w rest, length-drop old.at old.bytes.now, old.within)

  pub rest_is : drop (length old.bytes.now - length rest) old.bytes.now ≡ rest
  rest_is = ap (λ k. drop k old.bytes.now) place_is ∙ sym (drop-drop (length w) old.at old.bytes.now) ∙ ap (drop (length w)) h ∙ drop_at w rest (length w) refl

  pub moved : (new : Reader) → new.bytes.now ≡ old.bytes.now → new.at ≡ length old.bytes.now - length rest → Passed old new w
  moved new same at =
      record { same = same; at = at ∙ place_is; split = h ∙ ap (λ l. w ++ l) (sym rest_is ∙ ap (λ k. drop k old.bytes.now) (sym at) ∙ ap (drop new.at) (sym same)) }

-- from what is left after w to the whole
pub after : (L R : List ℕ → Type 0) (old new : Reader) (w : List ℕ) (e : Stop) → Passed old new w → Back L R w (left new) → Stuck R new e → Stuck L old e
after L R old new w e p f h = back L R w (left new) (left old) e p.split f h

pub stays : (r : Reader) → Passed r r []
stays r = record { same = refl; at = sym (add-zero r.at); split = refl }

pub both : (a b c : Reader) (u v : List ℕ) → Passed a b u → Passed b c v → Passed a c (u ++ v)
both a b c u v p q =
    record {
      same = q.same ∙ p.same;
      at = q.at ∙ ap (λ n. n + length v) p.at ∙ add_assoc a.at (length u) (length v) ∙ ap (λ n. a.at + n) (sym (length-append u v));
      split = p.split ∙ ap (λ l. u ++ l) q.split ∙ sym (append_assoc u v (left c));
    }
