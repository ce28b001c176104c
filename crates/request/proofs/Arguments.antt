-- One argument.
use Rattle.std.proofs.Common.{◌≡◌, ℕ, ◌+◌, ◌-◌, ◌≤◌, List, ◌∷◌, ◌++◌, length, take, drop, replicate, sym, refl, ap, ◌∙◌, subst, append_assoc, arith}
use Rattle.std.proofs.lemmas.List.{length-replicate, append_cancel_left, take_at}
use Rattle.store.specs.Limits.{longest_value}
use Rattle.wire.specs.Steps.{crlf, Sized, Filled}
use Rattle.wire.proofs.Sets.{Front, Back}
use Rattle.wire.proofs.Sizes.{zeros, same_front}
use Rattle.request.specs.Grammar.{length_line, argument_text}
use Rattle.request.specs.Answers.{cut}
use Rattle.request.specs.Steps.{left, LengthLine, Value, Argument, Put}
use Rattle.request.specs.declared.taken.Part.{Part}
use Rattle.request.specs.declared.reader.Reader.{Reader}
use Rattle.request.proofs.Passing.{rest_is, place_is, moved}
use Rattle.request.proofs.Marked.{line_free}

pub argument_free : (b b' t t' : List ℕ) → length b ≤ longest_value → length b' ≤ longest_value → argument_text b ++ t ≡ argument_text b' ++ t' → b ≡ b'
argument_free b b' t t' h h' e =
    let whole : length_line (length b) ++ ((b ++ crlf) ++ t) ≡ length_line (length b') ++ ((b' ++ crlf) ++ t') =
    sym (append_assoc (length_line (length b)) (b ++ crlf) t) ∙ e ∙ append_assoc (length_line (length b')) (b' ++ crlf) t' in
    let same = line_free 36 (length b') (length b) ((b' ++ crlf) ++ t') ((b ++ crlf) ++ t) (omega arith) (omega arith) whole in
    let rest = append_cancel_left (length_line (length b)) ((b ++ crlf) ++ t) ((b' ++ crlf) ++ t') (whole ∙ ap (λ k. length_line k ++ ((b' ++ crlf) ++ t')) (sym same)) in
    same_front b b' (crlf ++ t) (crlf ++ t') same (sym (append_assoc b crlf t) ∙ rest ∙ append_assoc b' crlf t')

-- an argument, before and after its line
pub front_argument : (s : List ℕ) → Front Argument LengthLine s
front_argument s =
    record {
      grows = λ v l.
          let n = l.0 in
          let long = length-replicate n 0 in
          (replicate n 0 ++ crlf, (replicate n 0, (omega arith, zeros n), ap (λ x. x ++ (replicate n 0 ++ crlf)) (l.2 ∙ ap (length_line) (sym long))));
      parts = λ w l. (length_line (length l.0), l.0 ++ crlf, (length l.0, (omega arith, l.1.0), refl), l.2);
    }

pub back_argument : (n : ℕ) (s : List ℕ) → n ≤ longest_value → Back Argument (Filled n) (length_line n) s
back_argument n s h =
    record {
      joins = λ v l. (l.0, (omega (arith, l.1.0), l.1.1), ap (λ x. length_line n ++ x) l.2 ∙ ap (λ k. length_line k ++ (l.0 ++ crlf)) (sym l.1.0));
      leads = λ c r is w t r' l e.
          let b = l.0 in
          let same = line_free 36 n (length b) (c ∷ r') ((b ++ crlf) ++ t) (omega arith) (omega (arith, l.1.0)) (sym (append_assoc (length_line (length b)) (b ++ crlf) t) ∙ ap (λ x. x ++ t) (sym l.2) ∙ e) in
          (b ++ crlf, (b, (same, l.1.1), refl), l.2 ∙ ap (λ k. length_line k ++ (b ++ crlf)) same);
    }

-- an argument that is passed: its line, its bytes, and what is left
module _ (old : Reader) (n : ℕ) (b after rest : List ℕ) (few : n ≤ longest_value) (first : left old ≡ length_line n ++ after) (sized : Sized n b) (body : after ≡ (b ++ crlf) ++ rest) where
  pub whole : left old ≡ argument_text b ++ rest
  whole =
      first
      ∙ ap (λ l. length_line n ++ l) body
      ∙ sym (append_assoc (length_line n) (b ++ crlf) rest)
      ∙ ap (λ k. (length_line k ++ (b ++ crlf)) ++ rest) (sym sized.0)

  pub put : (new : Reader) (p : Part) → new.bytes.now ≡ old.bytes.now → new.at ≡ length old.bytes.now - length rest → p.place ≡ length old.bytes.now - length after → p.size ≡ length b → Put old new p
  put new p same at place size =
      let xs = old.bytes.now in
      let there : cut xs p ≡ b =
      ap (λ k. take k (drop p.place xs)) size
      ∙ ap (λ k. take (length b) (drop k xs)) place
      ∙ ap (take (length b)) (rest_is old (length_line n) after first ∙ body ∙ append_assoc b crlf rest)
      ∙ take_at b (crlf ++ rest) (length b) refl in
      record {
        value = subst Value (sym there) (omega (arith, sized.0), sized.1);
        place = place ∙ place_is old (length_line n) after first ∙ ap (λ k. old.at + length (length_line k)) (sym (size ∙ sized.0));
        size = size ∙ ap length (sym there);
        passed = moved old (argument_text (cut xs p)) rest (whole ∙ ap (λ x. argument_text x ++ rest) (sym there)) new same at;
      }
