-- Arguments in a row, and requests of them.
use Rattle.std.proofs.Common.{◌≡◌, ℕ, zero, suc, ◌+◌, ◌-◌, ◌<◌, ◌≤◌, List, [], ◌∷◌, ◌++◌, map, length, take, set, replicate, sym, refl, ap, ◌∙◌, subst, append_assoc, add-zero, add_assoc, arith, length-append}
use Rattle.std.proofs.Math.Nat.{sub-zero}
use Rattle.std.proofs.lemmas.List.{length-replicate}
use Rattle.std.specs.List.{flat_map, AllByRecursion}
use Rattle.std.proofs.slice.Lists.{all_by_recursion_push}
use Rattle.std.proofs.lemmas.List.{take_all, take_at, length-map, length-set, take_more_set, map_push, flat_map_more}
use Rattle.store.specs.Limits.{longest_value}
use Rattle.wire.specs.Steps.{Between, Bytes}
use Rattle.wire.specs.declared.stop.Stop.{Stop}
use Rattle.wire.proofs.Sets.{Front, Back, front}
use Rattle.request.specs.Grammar.{Arguments, most_arguments, count_line, length_line, argument_text, Lawful}
use Rattle.request.specs.Answers.{cut, parts_from, arguments}
use Rattle.request.specs.Steps.{left, Passed, Stuck, CountLine, Value, Argument, Rows, Requests, Put, PutAll, Read}
use Rattle.request.specs.declared.taken.Part.{Part}
use Rattle.request.specs.declared.reader.Reader.{Reader}
use Rattle.request.specs.declared.taken.Request.{Request}
use Rattle.request.proofs.Passing.{after, both, stays}
use Rattle.request.proofs.Marked.{line_free}
use Rattle.request.proofs.Arguments.{argument_free}

-- rows of arguments
every_none : (k : ℕ) → AllByRecursion Value (replicate k [])
every_none zero = tt
every_none (suc k) = ((omega arith, tt), every_none k)

-- the values of a lawful request
pub lawful_of : (args : Arguments) → 1 ≤ length args → length args ≤ most_arguments → AllByRecursion Value args → Lawful args
lawful_of args some few h = ((some, few, lengths args h), bytes args h)
  where
    lengths : (bs : Arguments) → AllByRecursion Value bs → AllByRecursion (λ b. length b ≤ longest_value) bs
    lengths [] h = tt
    lengths (b ∷ bs) h = (h.0.0, lengths bs h.1)

    bytes : (bs : Arguments) → AllByRecursion Value bs → AllByRecursion Bytes bs
    bytes [] h = tt
    bytes (b ∷ bs) h = (h.0.1, bytes bs h.1)

values_of : (bs : Arguments) → AllByRecursion (λ b. length b ≤ longest_value) bs → AllByRecursion Bytes bs → AllByRecursion Value bs
values_of [] h k = tt
values_of (b ∷ bs) h k = ((h.0, k.0), values_of bs h.1 k.1)

pub front_rows : (k : ℕ) (s : List ℕ) → Front (Rows (suc k)) Argument s
front_rows k s =
    record {
      grows = λ v l. (flat_map argument_text (replicate k []), (l.0 ∷ replicate k [], ap suc (length-replicate k []), (l.1, every_none k), ap (λ x. x ++ flat_map argument_text (replicate k [])) l.2));
      parts = λ w l. first w l.0 l.1 l.2 l.3;
    }
  where
    first : (w : List ℕ) (bs : Arguments) → length bs ≡ suc k → AllByRecursion Value bs → w ≡ flat_map argument_text bs → (v t : List ℕ) × Argument v × (w ≡ v ++ t)
    first w [] n all e = absurd (omega arith)
    first w (b ∷ bs) n all e = (argument_text b, flat_map argument_text bs, (b, all.0, refl), e)

back_rows : (k : ℕ) (b s : List ℕ) → Value b → Back (Rows (suc k)) (Rows k) (argument_text b) s
back_rows k b s h =
    record {
      joins = λ v l. (b ∷ l.0, ap suc l.1, (h, l.2), ap (λ x. argument_text b ++ x) l.3);
      leads = λ c r at w t r' l e. next c w t r' l.0 l.1 l.2 l.3 e;
    }
  where
    next : (c : ℕ) (w t r' : List ℕ) (bs : Arguments) → length bs ≡ suc k → AllByRecursion Value bs → w ≡ flat_map argument_text bs → w ++ t ≡ argument_text b ++ (c ∷ r') → (v : List ℕ) × Rows k v × (w ≡ argument_text b ++ v)
    next c w t r' [] n all e m = absurd (omega arith)
    next c w t r' (b' ∷ bs) n all e m =
        let same = argument_free b' b (flat_map argument_text bs ++ t) (c ∷ r') all.0.0 h.0 (sym (append_assoc (argument_text b') (flat_map argument_text bs) t) ∙ ap (λ x. x ++ t) (sym e) ∙ m) in
        (flat_map argument_text bs, (bs, omega arith, all.1, refl), e ∙ ap (λ x. argument_text x ++ flat_map argument_text bs) same)

pub front_request : (s : List ℕ) → Front Requests CountLine s
front_request s =
    record {
      grows = λ v l.
          let n = l.0 in
          let args : List (List ℕ) = replicate n [] in
          let long : length args ≡ n = length-replicate n [] in
          (flat_map argument_text args, (args, lawful_of args (omega arith) (omega arith) (every_none n), ap (λ x. x ++ flat_map argument_text args) (l.2 ∙ ap (count_line) (sym long))));
      parts = λ w l. (count_line (length l.0), flat_map argument_text l.0, (length l.0, (l.1.0.0, l.1.0.1), refl), l.2);
    }

pub back_request : (n : ℕ) (s : List ℕ) → Between 1 most_arguments n → Back Requests (Rows n) (count_line n) s
back_request n s h =
    record {
      joins = λ v l. (l.0, lawful_of l.0 (omega arith) (omega arith) l.2, ap (λ x. count_line n ++ x) l.3 ∙ ap (λ k. count_line k ++ flat_map argument_text l.0) (sym l.1));
      leads = λ c r is w t r' l e.
          let args = l.0 in
          let same = line_free 42 n (length args) (c ∷ r') (flat_map argument_text args ++ t) (omega arith) (omega (arith, l.1.0.1)) (sym (append_assoc (count_line (length args)) (flat_map argument_text args) t) ∙ ap (λ x. x ++ t) (sym l.2) ∙ e) in
          (flat_map argument_text args, (args, same, values_of args l.1.0.2 l.1.1, refl), l.2 ∙ ap (λ k. count_line k ++ flat_map argument_text args) same);
    }

-- where one more argument stands
parts_push : (n : ℕ) (bs : Arguments) (b : List ℕ) → parts_from n (bs ++ b ∷ []) ≡ parts_from n bs ++ (record { place = n + length (flat_map argument_text bs) + length (length_line (length b)); size = length b } ∷ [])
parts_push n [] b = ap (λ k. record { place = k + length (length_line (length b)); size = length b } ∷ []) (sym (add-zero n))
parts_push n (a ∷ bs) b =
    let first : Part = record { place = n + length (length_line (length a)); size = length a } in
    let sum : n + length (argument_text a) + length (flat_map argument_text bs) ≡ n + length (argument_text a ++ flat_map argument_text bs) =
    add_assoc n (length (argument_text a)) (length (flat_map argument_text bs)) ∙ ap (λ k. n + k) (sym (length-append (argument_text a) (flat_map argument_text bs))) in
    ap (λ l. first ∷ l) (parts_push (n + length (argument_text a)) bs b)
    ∙ ap (λ k. first ∷ (parts_from (n + length (argument_text a)) bs ++ (record { place = k + length (length_line (length b)); size = length b } ∷ []))) sum

part_is : (p : Part) (a b : ℕ) → p.place ≡ a → p.size ≡ b → p ≡ record { place = a; size = b }
part_is p a b e f = ap (λ k. record { place = k; size = p.size }) e ∙ ap (λ k. record { place = a; size = k }) f

-- i of n arguments are passed: where they stand, and how what is left carries to the whole
pub record Sofar (start here : Reader) (n i : ℕ) (parts : List Part) : Type 0 where
  pub long : length parts ≡ n
  pub values : AllByRecursion Value (map (cut start.bytes.now) (take i parts))
  pub placed : take i parts ≡ parts_from start.at (map (cut start.bytes.now) (take i parts))
  pub passed : Passed start here (flat_map argument_text (map (cut start.bytes.now) (take i parts)))
  pub carries : (e : Stop) → Stuck (Rows (n - i)) here e → Stuck (Rows n) start e

pub none_yet : (r : Reader) (n : ℕ) (parts : List Part) → length parts ≡ n → Sofar r r n 0 parts
none_yet r n parts h = record { long = h; values = tt; placed = refl; passed = stays r; carries = λ e s. subst (λ k. Stuck (Rows k) r e) (sub-zero n) s }

-- one more argument
module _ (start here : Reader) (n i : ℕ) (parts : List Part) (h : Sofar start here n i parts) (lt : i < n) where
  pub stuck : (e : Stop) → Stuck Argument here e → Stuck (Rows n) start e
  stuck e s =
      let more : suc (n - i - 1) ≡ n - i = omega arith in
      h.carries e (subst (λ k. Stuck (Rows k) here e) more (front (Rows (suc (n - i - 1))) Argument (left here) e (front_rows (n - i - 1) (left here)) s))

  pub one_more : (next : Reader) (p : Part) → Put here next p → Sofar start next n (i + 1) (set parts i p)
  one_more next p q =
      let xs = start.bytes.now in
      let same : here.bytes.now ≡ xs = h.passed.same in
      let body = cut xs p in
      let old = map (cut xs) (take i parts) in
      let long : i < length parts = omega (arith, h.long) in
      let taken : take (i + 1) (set parts i p) ≡ take i parts ++ (p ∷ []) = take_more_set parts i p long in
      let texts : map (cut xs) (take (i + 1) (set parts i p)) ≡ old ++ (body ∷ []) = ap (map (cut xs)) taken ∙ map_push (cut xs) (take i parts) p in
      let told : Passed here next (argument_text body) = subst (λ l. Passed here next (argument_text (cut l p))) same q.passed in
      let full : length body ≡ p.size = ap (λ l. length (cut l p)) (sym same) ∙ sym q.size in
      let value : Value body = subst (λ l. Value (cut l p)) same q.value in
      let more : suc (n - i - 1) ≡ n - i = omega arith in
      let less : n - i - 1 ≡ n - (i + 1) = omega arith in
      let place : p.place ≡ start.at + length (flat_map argument_text old) + length (length_line (length body)) =
      q.place ∙ ap (λ k. here.at + length (length_line k)) (sym full) ∙ ap (λ k. k + length (length_line (length body))) h.passed.at in
      record {
        long = length-set parts i p ∙ h.long;
        values = subst (AllByRecursion Value) (sym texts) (all_by_recursion_push Value old body h.values value);
        placed = taken
            ∙ ap (λ l. l ++ (p ∷ [])) h.placed
            ∙ ap (λ x. parts_from start.at old ++ (x ∷ [])) (part_is p _ _ place (sym full))
            ∙ sym (parts_push start.at old body)
            ∙ ap (parts_from start.at) (sym texts);
        passed = subst (Passed start next) (flat_map_more argument_text [] old body ∙ ap (flat_map argument_text) (sym texts)) (both start here next (flat_map argument_text old) (argument_text body) h.passed told);
        carries = λ e s.
            h.carries e (subst (λ k. Stuck (Rows k) here e) more
            (after (Rows (suc (n - i - 1))) (Rows (n - i - 1)) here next (argument_text body) e told (back_rows (n - i - 1) body (left next) value) (subst (λ k. Stuck (Rows k) next e) (sym less) s)));
      }

-- all are passed
pub put_all : (start here : Reader) (n : ℕ) (parts : List Part) → Sofar start here n n parts → PutAll start here parts
put_all start here n parts h =
    let all : take n parts ≡ parts = take_all n parts (omega (arith, h.long)) in
    let texts : map (cut start.bytes.now) (take n parts) ≡ map (cut start.bytes.now) parts = ap (map (cut start.bytes.now)) all in
    record {
      values = subst (AllByRecursion Value) texts h.values;
      placed = sym all ∙ h.placed ∙ ap (parts_from start.at) texts;
      passed = subst (λ l. Passed start here (flat_map argument_text l)) texts h.passed;
    }

module _ (a b c : Reader) (n : ℕ) (done rest : List Part) (few : n ≤ most_arguments) (h : Between 1 most_arguments n) (first : Passed a b (count_line n)) (long : length done ≡ n) (put : PutAll b c done) where
  pub told : Read a c (record { bytes = c.bytes; parts = done ++ rest; count = n; span = c.at; few = few })
  told =
      let q : Request = record { bytes = c.bytes; parts = done ++ rest; count = n; span = c.at; few = few } in
      let front : take n (done ++ rest) ≡ done = take_at done rest n long in
      let all : PutAll b c (take n (done ++ rest)) = subst (PutAll b c) (sym front) put in
      let same : b.bytes.now ≡ c.bytes.now = sym all.passed.same in
      let count : length (arguments q) ≡ n = length-map (take n (done ++ rest)) (cut c.bytes.now) ∙ ap length front ∙ long in
      let args : Passed b c (flat_map argument_text (arguments q)) = subst (λ l. Passed b c (flat_map argument_text (map (cut l) (take n (done ++ rest))))) same all.passed in
      record {
        same = all.passed.same ∙ first.same;
        count = sym count;
        lawful = lawful_of (arguments q) (omega arith) (omega arith) (subst (λ l. AllByRecursion Value (map (cut l) (take n (done ++ rest)))) same all.values);
        placed = subst (λ l. take n (done ++ rest) ≡ parts_from b.at (map (cut l) (take n (done ++ rest)))) same all.placed
            ∙ ap (λ k. parts_from k (arguments q)) (first.at ∙ ap (λ k. a.at + length (count_line k)) (sym count));
        passed = subst (λ k. Passed a c (count_line k ++ flat_map argument_text (arguments q))) (sym count) (both a b c (count_line n) (flat_map argument_text (arguments q)) first args);
        span = refl;
      }
