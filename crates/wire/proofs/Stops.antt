-- Stops, told from the front of the bytes.
use Rattle.std.proofs.Common.{◌≡◌, ℕ, ◌-◌, List, length, Ok, Err, Result, sym, refl, ap, ◌∙◌, subst, arith}
use Rattle.std.specs.Prelude.{MatchResult, IsErrAnd, IfOk, IfErr}
use Rattle.wire.specs.Steps.{Refused, Stopped}
use Rattle.wire.specs.declared.stop.Stop.{Stop}
use Rattle.wire.specs.declared.stop.Stop.TheVariants.{Short as Ended, At}
use Rattle.wire.specs.declared.stop.ReadError.{ReadError}
use Rattle.wire.specs.declared.stop.ReadError.TheVariants.{More, Fault}

-- why no text of L begins the bytes, told from their front
refused : (L : List ℕ → Type 0) (s : List ℕ) (stop : Stop) (e : ReadError) → Stopped L s stop → (stop ≡ Ended → e ≡ More) → ((k : ℕ) → stop ≡ At k → e ≡ Fault (length s - k)) → Refused L s e
refused L s Ended e h more place = subst (Refused L s) (sym (more refl)) h
refused L s (At k) e h more place = subst (Refused L s) (sym (place k refl ∙ ap Fault (omega (arith, h.1)))) h.2

-- the error of an answer whose stop is told from the front
pub seen_from_front : {X : Type 0} (L : List ℕ → Type 0) (s : List ℕ) (r : Result X Stop) (seen : Result X ReadError) (Made : Stop → ReadError → Type 0) → IfErr r (Stopped L s) → MatchResult r (λ f. seen ≡ Ok f) (λ e. IsErrAnd seen (Made e)) →
    ((stop : Stop) (e : ReadError) → Made stop e → stop ≡ Ended → e ≡ More) → ((stop : Stop) (e : ReadError) → Made stop e → (k : ℕ) → stop ≡ At k → e ≡ Fault (length s - k)) → IfErr seen (Refused L s)
seen_from_front L s (Ok f) seen Made h g more place = subst (λ x. IfErr x (Refused L s)) (sym g) tt
seen_from_front L s (Err stop) (Ok f) Made h g more place = absurd g
seen_from_front L s (Err stop) (Err e) Made h g more place = refused L s stop e h (more stop e g) (place stop e g)

-- what was read is what it was
pub ok_from_front : {X : Type 0} (P : X → Type 0) (r : Result X Stop) (seen : Result X ReadError) (Made : Stop → ReadError → Type 0) → IfOk r P → MatchResult r (λ f. seen ≡ Ok f) (λ e. IsErrAnd seen (Made e)) → IfOk seen P
ok_from_front P (Ok f) seen Made h g = subst (λ x. IfOk x P) (sym g) h
ok_from_front P (Err stop) (Ok f) Made h g = absurd g
ok_from_front P (Err stop) (Err e) Made h g = tt

-- a stop that is passed on says what it said
pub passed_on : {T E : Type 0} (R : E → Type 0) (r : Result T E) {e : E} → IsErrAnd r (λ y. y ≡ e) → R e → IfErr r R
passed_on R (Ok x) h q = absurd h
passed_on R (Err y) h q = subst R (sym h) q

pub passed_on_by_cases : {T E : Type 0} (P : T → Type 0) (R : E → Type 0) (r : Result T E) {e : E} → IsErrAnd r (λ y. y ≡ e) → R e → MatchResult r P R
passed_on_by_cases P R (Ok x) h q = absurd h
passed_on_by_cases P R (Err y) h q = subst R (sym h) q
