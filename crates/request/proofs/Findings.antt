-- From the steps of the reader to what is found.
use Rattle.std.proofs.Common.{◌≡◌, ℕ, ◌+◌, ◌<◌, ◌≤◌, List, [], ◌∷◌, ◌++◌, map, length, take, drop, Ok, Err, Result, sym, refl, ap, ◌∙◌, subst, ⊎_elim, append_assoc, append-nil, zero-add, arith, length-append}
use Rattle.std.specs.Prelude.{IfOk, IfErr}
use Rattle.std.proofs.lemmas.List.{take_all}
use Rattle.std.proofs.lemmas.Bool.{cases_lt}
use Rattle.wire.specs.Texts.{Begins, Short, Strays}
use Rattle.wire.proofs.Sets.{begun, shorter}
use Rattle.wire.specs.Steps.{Refused}
use Rattle.wire.specs.declared.stop.ReadError.{ReadError}
use Rattle.wire.specs.declared.stop.ReadError.TheVariants.{More, Fault}
use Rattle.request.specs.Grammar.{count_line, request_text}
use Rattle.request.specs.Answers.{cut, parts_from, parts_in, arguments, finding, Takes, Lacks, Faults, Kept, Correct}
use Rattle.request.specs.Steps.{left, Requests, Read}
use Rattle.request.specs.declared.reader.Reader.{Reader}
use Rattle.request.specs.declared.taken.Request.{Request}
use Rattle.request.proofs.Free.{request_free}

module _ (s : List ℕ) where
  pub lacks : Short Requests s → Lacks s
  lacks h =
      let w = h.lawful in
      let e : request_text w.0 ≡ s ++ (h.next ∷ h.rest) = sym w.2 ∙ h.split in
      record {
        opens = (w.0, w.1, (h.next ∷ h.rest, e));
        part = λ x.
            let whole : request_text x.0 ++ (x.2.0 ++ (h.next ∷ h.rest)) ≡ request_text w.0 ++ [] =
            sym (append_assoc (request_text x.0) x.2.0 (h.next ∷ h.rest)) ∙ ap (λ l. l ++ (h.next ∷ h.rest)) (sym x.2.1) ∙ sym e ∙ sym (append-nil (request_text w.0)) in
            let same = request_free x.0 w.0 (x.2.0 ++ (h.next ∷ h.rest)) [] x.1.0 w.1.0 whole in
            let long : length s ≡ length (request_text x.0) + length x.2.0 = ap length x.2.1 ∙ length-append (request_text x.0) x.2.0 in
            omega (arith, ap (λ z. length (request_text z)) same, ap length e, length-append s (h.next ∷ h.rest));
      }

  -- the place of a fault is within the text
  place_within : (p : ℕ) → Strays Requests s p → p ≤ length s
  place_within p h =
      ⊎_elim (λ l. absurd (past l)) (λ l. l) (cases_lt (length s) p)
    where
      past : length s < p → ⊥
      past l = h.leaves h.word h.lawful (subst (λ x. Begins x h.word) (take_all p s (omega arith) ∙ sym (take_all (p + 1) s (omega arith))) h.begins)

  pub faults : (p : ℕ) → Strays Requests s p → Faults s p
  faults p h =
      let w = h.lawful in
      record {
        none = λ x. h.open_ended (request_text x.0) (x.0, x.1, refl) x.2;
        never = λ x. h.leaves (request_text x.0) (x.0, x.1, refl) (begun s (request_text x.0) (p + 1) x.2);
        shares = (place_within p h, (w.0, w.1, subst (Begins (take p s)) w.2 h.begins));
        longest = λ n x.
            ⊎_elim
            (λ l. absurd (h.leaves (request_text x.1.0) (x.1.0, x.1.1, refl) (shorter s (request_text x.1.0) (p + 1) n (omega arith) x.1.2)))
            (λ l. l)
            (cases_lt p n);
      }

module _ (a c : Reader) (start : a.at ≡ 0) where
  takes : (q : Request) → Read a c q → Takes a.bytes.now (arguments q) (parts_in q) q.span
  takes q h =
      let args = arguments q in
      record {
        lawful = h.lawful;
        begins = (left c, ap (λ i. drop i a.bytes.now) (sym start) ∙ h.passed.split);
        placed = h.placed ∙ ap (λ k. parts_from (k + length (count_line (length args))) args) start ∙ ap (λ k. parts_from k args) (zero-add _);
        there = ap (λ l. map (cut l) (parts_in q)) (sym h.same);
        spans = h.span ∙ h.passed.at ∙ ap (λ i. i + length (request_text args)) start ∙ zero-add _;
      }

  pub keeps : (q : Request) → Read a c q → Kept a.bytes.now q
  keeps q h = record { bytes = h.same; count = h.count; within = omega (arith, h.span, c.within, ap length h.passed.same) }

  pub correct : (r : Result Request ReadError) → IfOk r (Read a c) → IfErr r (Refused Requests a.bytes.now) → Correct a.bytes.now (finding r)
  correct (Ok q) h g = takes q h
  correct (Err More) h g = lacks a.bytes.now g
  correct (Err (Fault p)) h g = faults a.bytes.now p g
