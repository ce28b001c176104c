use Rattle.std.proofs.Common.{◌≡◌, ℕ, ◌+◌, ◌<◌, List, [], ◌∷◌, ◌++◌, length, get_or, drop, set, sym, ap, ◌∙◌, append_assoc, arith}
use Rattle.std.proofs.lemmas.List.{drop_more, set_at, length-append}
use Rattle.store.specs.Answers.{over}
use Rattle.entry.specs.Entry.{body}
use Rattle.entry.proofs.write_entry.Goals as goal

-- one more byte after what is written
put_last : (bs xs : List ℕ) (n : ℕ) → n ≡ length bs → n < length xs → set (over xs bs) n n ≡ over xs (bs ++ length bs ∷ [])
put_last bs xs n e h =
    let d : drop (length bs) xs ≡ get_or xs n 0 ∷ drop (n + 1) xs = ap (λ k. drop k xs) (sym e) ∙ drop_more xs n 0 h in
    let l : n + 1 ≡ length (bs ++ length bs ∷ []) = omega (arith, length-append bs (length bs ∷ [])) in
    ap (λ ys. set (bs ++ ys) n n) d ∙ set_at bs (get_or xs n 0) (drop (n + 1) xs) n n (sym e) ∙ ap (λ k. bs ++ k ∷ drop (n + 1) xs) e
    ∙ sym (append_assoc bs (length bs ∷ []) (drop (n + 1) xs)) ∙ ap (λ k. (bs ++ length bs ∷ []) ++ drop k xs) l

pub returns-clause-bytes : goal.returns-clause-bytes
returns-clause-bytes c =
    let w = c.write_body-n in
    ap (λ xs. set xs w.result w.result) w.ensures.bytes ∙ put_last (body c.args.value.now) c.args.out.now w.result w.ensures.size (omega (arith, w.ensures.few))
