-- At most one finding is right, and what comes after does not matter.
use Rattle.std.proofs.Common.{◌≡◌, ℕ, ◌+◌, ◌*◌, ◌<◌, ◌≤◌, List, [], ◌∷◌, ◌++◌, map, length, take, drop, decimal, sym, refl, ap, ◌∙◌, subst, ⊎_elim, append_assoc, append-nil, arith, length-append, take-append-drop}
use Rattle.std.proofs.Math.Seq.{drop-append-add}
use Rattle.std.specs.List.{flat_map, AllByRecursion}
use Rattle.std.proofs.lemmas.Fmt.{length-decimal-le}
use Rattle.std.proofs.lemmas.List.{drop_at, take_at, take_all, take-take, take-append-le, length-take-le}
use Rattle.std.proofs.lemmas.Bool.{cases_lt}
use Rattle.store.specs.Limits.{longest_value}
use Rattle.wire.specs.Texts.{Begins}
use Rattle.wire.specs.Steps.{crlf}
use Rattle.request.specs.Grammar.{Arguments, longest_request, line, count_line, length_line, argument_text, request_text, Lawful}
use Rattle.request.specs.Answers.{cut, parts_from, parts_of, Finding, taken, more, fault, Opens, Takes, Faults, Correct}
use Rattle.request.specs.declared.taken.Part.{Part}
use Rattle.wire.proofs.Sets.{meet, beyond, begun, shorter}
use Rattle.request.proofs.Free.{request_free}

pub one : (s : List ℕ) (f g : Finding) → Correct s f → Correct s g → f ≡ g
one s (taken args parts span) (taken others rest long) x y =
    let same : args ≡ others = request_free args others x.begins.0 y.begins.0 x.lawful.0 y.lawful.0 (sym x.begins.1 ∙ y.begins.1) in
    let placed : parts ≡ rest = x.placed ∙ ap parts_of same ∙ sym y.placed in
    let spans : span ≡ long = x.spans ∙ ap (λ z. length (request_text z)) same ∙ sym y.spans in
    cc
one s (taken args parts span) more x y = absurd (y.part (args, x.lawful, x.begins))
one s (taken args parts span) (fault p) x y = absurd (y.none (args, x.lawful, x.begins))
one s more (taken args parts span) x y = absurd (x.part (args, y.lawful, y.begins))
one s more more x y = refl
one s more (fault p) x y = absurd (y.never x.opens)
one s (fault p) (taken args parts span) x y = absurd (x.none (args, y.lawful, y.begins))
one s (fault p) more x y = absurd (x.never y.opens)
one s (fault p) (fault q) x y = ap fault (let a = x.longest q y.shares in let b = y.longest p x.shares in omega arith)

-- the bytes at the place of an argument are the argument
cut_first : (pre b rest : List ℕ) → cut (pre ++ (argument_text b ++ rest)) (record { place = length pre + length (length_line (length b)); size = length b }) ≡ b
cut_first pre b rest =
    let l = length_line (length b) in
    ap (take (length b)) (
    drop-append-add pre (argument_text b ++ rest) (length l)
    ∙ ap (drop (length l)) (append_assoc l (b ++ crlf) rest ∙ ap (λ x. l ++ x) (append_assoc b crlf rest))
    ∙ drop_at l (b ++ (crlf ++ rest)) (length l) refl)
    ∙ take_at b (crlf ++ rest) (length b) refl

cut_all : (pre : List ℕ) (bs : Arguments) (rest : List ℕ) → map (cut (pre ++ (flat_map argument_text bs ++ rest))) (parts_from (length pre) bs) ≡ bs
cut_all pre [] rest = refl
cut_all pre (b ∷ bs) rest =
    let text = pre ++ ((argument_text b ++ flat_map argument_text bs) ++ rest) in
    let first : text ≡ pre ++ (argument_text b ++ (flat_map argument_text bs ++ rest)) = ap (λ x. pre ++ x) (append_assoc (argument_text b) (flat_map argument_text bs) rest) in
    let next : text ≡ (pre ++ argument_text b) ++ (flat_map argument_text bs ++ rest) = first ∙ sym (append_assoc pre (argument_text b) (flat_map argument_text bs ++ rest)) in
    let p : Part = record { place = length pre + length (length_line (length b)); size = length b } in
    ap (λ t. cut t p ∷ map (cut text) (parts_from (length pre + length (argument_text b)) bs)) first
    ∙ ap (λ x. x ∷ map (cut text) (parts_from (length pre + length (argument_text b)) bs)) (cut_first pre b (flat_map argument_text bs ++ rest))
    ∙ ap (λ t. b ∷ map (cut t) (parts_from (length pre + length (argument_text b)) bs)) next
    ∙ ap (λ n. b ∷ map (cut ((pre ++ argument_text b) ++ (flat_map argument_text bs ++ rest))) (parts_from n bs)) (sym (length-append pre (argument_text b)))
    ∙ ap (λ l. b ∷ l) (cut_all (pre ++ argument_text b) bs rest)

-- a request in front of any bytes is taken
pub taken_with : (args : Arguments) (t : List ℕ) → Lawful args → Takes (request_text args ++ t) args (parts_of args) (length (request_text args))
taken_with args t h =
    record {
      lawful = h;
      begins = (t, refl);
      placed = refl;
      there = ap (λ s. map (cut s) (parts_of args)) (append_assoc (count_line (length args)) (flat_map argument_text args) t) ∙ cut_all (count_line (length args)) args t;
      spans = refl;
    }

pub after_request : (s t : List ℕ) (args : Arguments) (parts : List Part) (span : ℕ) → Correct s (taken args parts span) → Correct (take span s ++ t) (taken args parts span)
after_request s t args parts span x =
    let front : take span s ≡ request_text args = ap (take span) x.begins.1 ∙ take_at (request_text args) x.begins.0 span (sym x.spans) in
    subst (λ n. Takes (take span s ++ t) args parts n) (sym x.spans)
    (subst (λ l. Takes (take span s ++ t) args l (length (request_text args))) (sym x.placed)
    (subst (λ l. Takes (l ++ t) args (parts_of args) (length (request_text args))) (sym front) (taken_with args t x.lawful)))

-- at most two digits are in each line
line_bound : (mark n : ℕ) → n ≤ longest_value → length (line mark n) ≤ 5
line_bound mark n h = omega (arith, length-decimal-le 2 n (omega arith) (omega arith) (omega arith), length-append (decimal n) crlf)

rows_bound : (bs : Arguments) → AllByRecursion (λ b. length b ≤ longest_value) bs → length (flat_map argument_text bs) ≤ (5 + longest_value + 2) * length bs
rows_bound [] h = omega arith
rows_bound (b ∷ bs) h =
    let l = length_line (length b) in
    omega (arith, rows_bound bs h.1, h.0, line_bound 36 (length b) h.0, length-append (argument_text b) (flat_map argument_text bs), length-append l (b ++ crlf), length-append b crlf)

pub bounded : (args : Arguments) → Lawful args → length (request_text args) ≤ longest_request
bounded args h = omega (arith, h.0.1, line_bound 42 (length args) (omega (arith, h.0.1)), rows_bound args h.0.2, length-append (count_line (length args)) (flat_map argument_text args))

pub below : (s : List ℕ) → Correct s more → length s < longest_request
below s x = proper x.opens.2.0 x.opens.2.1
  where
    proper : (t : List ℕ) → request_text x.opens.0 ≡ s ++ t → length s < longest_request
    proper [] e = absurd (x.part (x.opens.0, x.opens.1, ([], sym (append-nil s) ∙ sym e ∙ sym (append-nil _))))
    proper (c ∷ t) e = omega (arith, bounded x.opens.0 x.opens.1, ap length e, length-append s (c ∷ t))

module _ (s t : List ℕ) (p : ℕ) (x : Faults s p) where
  -- the byte at the place is there, and with it no lawful request begins so
  there : p < length s
  there = ⊎_elim (λ l. l) (λ l. absurd (x.never (subst Opens (take_all p s l) x.shares.1))) (cases_lt p (length s))

  stops : Opens (take (p + 1) s) → ⊥
  stops o = let h = there in let n = x.longest (p + 1) (omega arith, o) in omega arith

  front : (n : ℕ) → n ≤ p + 1 → take n (take (p + 1) s ++ t) ≡ take n s
  front n h =
      let long : length (take (p + 1) s) ≡ p + 1 = length-take-le (p + 1) s (let l = there in omega arith) in
      take-append-le n (take (p + 1) s) t (omega arith) ∙ take-take n (p + 1) s h

  pub after_fault : Faults (take (p + 1) s ++ t) p
  after_fault =
      let whole : length (take (p + 1) s ++ t) ≡ p + 1 + length t = length-append (take (p + 1) s) t ∙ ap (λ n. n + length t) (length-take-le (p + 1) s (let l = there in omega arith)) in
      record {
        none = λ h.
            let w = request_text h.0 in
            ⊎_elim
            (λ b. x.none (h.0, h.1, subst (Begins w) (take-append-drop (p + 1) s) (beyond w (take (p + 1) s) (drop (p + 1) s) b)))
            (λ b. stops (h.0, h.1, b))
            (meet w (take (p + 1) s) h.2.0 t (sym h.2.1));
        never = λ o. stops (o.0, o.1, subst (λ l. Begins l (request_text o.0)) (front (p + 1) (omega arith)) (begun (take (p + 1) s ++ t) (request_text o.0) (p + 1) o.2));
        shares = (omega arith, subst Opens (sym (front p (omega arith))) x.shares.1);
        longest = λ n h.
            let o = h.1 in
            ⊎_elim
            (λ l. absurd (stops (o.0, o.1, subst (λ k. Begins k (request_text o.0)) (front (p + 1) (omega arith)) (shorter (take (p + 1) s ++ t) (request_text o.0) (p + 1) n (omega arith) o.2))))
            (λ l. l)
            (cases_lt p n);
      }
