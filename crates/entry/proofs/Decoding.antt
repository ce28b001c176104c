-- What is decoded is the value whose entry the bytes begin with.
use Rattle.std.proofs.Common.{◌≡◌, ℕ, zero, suc, ◌+◌, ◌-◌, ◌<◌, ◌≤◌, eqb, List, [], ◌∷◌, ◌++◌, length, get_or, take, drop, Some, None, Option, sym, refl, ap, ◌∙◌, append_assoc, arith}
use Rattle.std.proofs.lemmas.List.{take_at, get_or_at, drop_more, length-take-le, take-append-drop}
use Rattle.std.proofs.lemmas.Option.{cond_some}
use Rattle.std.proofs.lemmas.Bool.{cond-true, eq-eqb, eqb-true}
use Rattle.store.specs.Answers.{over}
use Rattle.entry.specs.Entry.{body, entry, span_in, Begins, Decoded, ReadsBack}
use Rattle.entry.specs.Reading.{value_in, measured, size_in, Taken}
use Rattle.entry.proofs.Laws.{body_back, body_forth, length_entry, span_entry, apart}

-- ---- the length after an encoding and its data

size_right : (bytes : List ℕ) (n : ℕ) → size_in bytes ≡ Some n → get_or bytes n 0 ≡ n
size_right bytes n = go (span_in bytes)
  where
    go : (o : Option ℕ) → measured bytes o ≡ Some n → get_or bytes n 0 ≡ n
    go None e = let bad : ◌≡◌ {A = ℕ} 0 1 = cc in absurd (omega arith)
    go (Some s) e =
        let q = cond_some (eqb (get_or bytes (s - 1) 0) (s - 1)) (s - 1) n e in
        let r = eqb-true (get_or bytes (s - 1) 0) (s - 1) q.0 in
        ap (λ k. get_or bytes k 0) (sym q.1) ∙ r ∙ q.1

-- bytes that begin with an entry have the value's encoding and data in front
begun : (bytes v rest : List ℕ) → Begins bytes v rest → (size_in bytes ≡ Some (length (body v))) × (take (length (body v)) bytes ≡ body v)
begun bytes v rest b =
    let e : bytes ≡ body v ++ length (body v) ∷ rest = b.1 ∙ append_assoc (body v) (length (body v) ∷ []) rest in
    let s : span_in bytes ≡ Some (length (entry v)) = ap span_in b.1 ∙ span_entry v rest b.0 in
    let m : length (entry v) - 1 ≡ length (body v) = omega (arith, length_entry v) in
    let g : get_or bytes (length (entry v) - 1) 0 ≡ length (entry v) - 1 = ap (λ k. get_or bytes k 0) m ∙ ap (λ bs. get_or bs (length (body v)) 0) e ∙ get_or_at (body v) (length (body v)) rest 0 (length (body v)) refl ∙ sym m in (
      ap (measured bytes) s ∙ cond-true (eqb (get_or bytes (length (entry v) - 1) 0) (length (entry v) - 1)) _ _ (eq-eqb _ _ g) ∙ ap Some m,
      ap (take (length (body v))) e ∙ take_at (body v) (length (body v) ∷ rest) (length (body v)) refl,
    )

-- and the other way round
begins : (bytes v : List ℕ) (n : ℕ) → size_in bytes ≡ Some n → n < length bytes → take n bytes ≡ body v → (bytes ≡ entry v ++ drop (n + 1) bytes) × (n + 1 ≡ length (entry v))
begins bytes v n s l t =
    let m : n ≡ length (body v) = omega (arith, length-take-le n bytes (omega arith), ap length t) in
    let d : drop n bytes ≡ length (body v) ∷ drop (n + 1) bytes = drop_more bytes n 0 l ∙ ap (λ k. k ∷ drop (n + 1) bytes) (size_right bytes n s ∙ m) in (
      sym (take-append-drop n bytes) ∙ ap (λ bs. bs ++ drop n bytes) t ∙ ap (λ bs. body v ++ bs) d ∙ sym (append_assoc (body v) (length (body v) ∷ []) (drop (n + 1) bytes)),
      omega (arith, m, length_entry v),
    )

-- ---- what is answered

pub no_size : (bytes out : List ℕ) → size_in bytes ≡ None → Decoded bytes out out None
no_size bytes out s = ((λ v rest b. let q = (begun bytes v rest b).0 in let bad : ◌≡◌ {A = ℕ} 0 1 = cc in omega arith), refl)

pub no_value : (bytes out out' : List ℕ) (n : ℕ) → size_in bytes ≡ Some n → Taken (value_in (take n bytes)) out out' None → Decoded bytes out out' None
no_value bytes out out' n s t = ((λ v rest b. absurd (none v rest b)), (go (value_in (take n bytes)) t).1)
  where
    go : (o : Option (List ℕ)) → Taken o out out' None → (o ≡ None) × (out' ≡ out)
    go None t = (refl, t.1)
    go (Some v) t = let q = t.0 in let bad : ◌≡◌ {A = ℕ} 0 1 = cc in absurd (omega arith)

    none : (v rest : List ℕ) → Begins bytes v rest → ⊥
    none v rest b =
        let g = begun bytes v rest b in
        let o = (go (value_in (take n bytes)) t).0 in
        let m : n ≡ length (body v) = let a = g.0 in cc in
        let w : value_in (take n bytes) ≡ Some v = ap (λ k. value_in (take k bytes)) m ∙ ap value_in g.1 ∙ body_back v b.0 in
        let bad : ◌≡◌ {A = ℕ} 0 1 = cc in
        omega arith

take_bytes : (n : ℕ) (bytes : List ℕ) → ((i : ℕ) → get_or bytes i 0 < 256) → (i : ℕ) → get_or (take n bytes) i 0 < 256
take_bytes zero bytes h i = omega arith
take_bytes (suc n) [] h i = omega arith
take_bytes (suc n) (b ∷ bytes) h zero = h 0
take_bytes (suc n) (b ∷ bytes) h (suc i) = take_bytes n bytes (λ j. h (suc j)) i

pub a_value : (bytes out out' : List ℕ) (n size : ℕ) → ((i : ℕ) → get_or bytes i 0 < 256) → size_in bytes ≡ Some n → 1 ≤ n → n < length bytes → Taken (value_in (take n bytes)) out out' (Some size) → Decoded bytes out out' (Some (size, n + 1))
a_value bytes out out' n size h s p l = go (value_in (take n bytes)) refl
  where
    go : (o : Option (List ℕ)) → value_in (take n bytes) ≡ o → Taken o out out' (Some size) → Decoded bytes out out' (Some (size, n + 1))
    go None e t = let q = t.0 in let bad : ◌≡◌ {A = ℕ} 0 1 = cc in absurd (omega arith)
    go (Some v) e t =
        let f = body_forth (take n bytes) v (take_bytes n bytes h) e in
        let b = begins bytes v n s l f.0 in
        let q : size ≡ length v = let a = t.0 in cc in
        let w : take size out' ≡ v = ap (take size) t.2 ∙ take_at v (drop (length v) out) size (sym q) in
        (omega (arith, q, f.1), omega arith, omega arith, rw w (record { begins = (f.1, b.0); sized = q; spanned = b.1; left = t.2 }))

pub back : (bytes out out' : List ℕ) (r : Option (ℕ × ℕ)) → Decoded bytes out out' r → ReadsBack bytes out out' r
back bytes out out' None d v rest b = absurd (d.0 v rest b)
back bytes out out' (Some p) d v rest b =
    let r = d.3 in
    let e : take p.0 out' ≡ v = apart (take p.0 out') v (drop p.1 bytes) rest r.begins.0 b.0 (sym r.begins.1 ∙ b.1) in
    (ap (λ k. Some (k, p.1)) (r.sized ∙ ap length e) ∙ ap (λ k. Some (length v, k)) (r.spanned ∙ ap (λ w. length (entry w)) e), r.left ∙ ap (over out) e)
