-- No two lawful values begin one text.
use Rattle.std.proofs.Common.{◌≡◌, ℕ, zero, suc, ◌^◌, ◌<◌, List, ◌∷◌, ◌++◌, length, ℤ, pos, negsuc, decimal, sym, refl, ap, ◌∙◌, subst, ⊎_elim, append_assoc, arith, w64, SFits}
use Rattle.std.specs.Fmt.{signed_decimal}
use Rattle.std.proofs.lemmas.List.{append_cancel_left}
use Rattle.reply.specs.Replies.{Reply, Replies, text, error, integer, bulk, nil, nil_array, array, none, then, count, nil_text, bytes_of, row_of, Lawful, EachLawful, Bulk}
use Rattle.wire.specs.Steps.{crlf}
use Rattle.wire.proofs.Numbers.{number_free}
use Rattle.wire.proofs.Sizes.{filled_free}
use Rattle.reply_reader.proofs.LineLemmas.{text_free, minus_first}
use Rattle.reply_reader.proofs.Marks.{mark_of, rest_of, parts, as_text, as_error, as_integer, as_bulk, as_array}

abbrev pub Free : ℕ → Type 0
Free d = (v u : Reply) → Lawful v d → Lawful u d → (t r : List ℕ) → bytes_of v ++ t ≡ bytes_of u ++ r → v ≡ u

rows_free : (d : ℕ) → Free d → (vs us : Replies) → count vs ≡ count us → EachLawful vs d → EachLawful us d → (t r : List ℕ) → row_of vs ++ t ≡ row_of us ++ r → vs ≡ us
rows_free d f none none n lv lu t r e = refl
rows_free d f none (then u us) n lv lu t r e = absurd (omega arith)
rows_free d f (then v vs) none n lv lu t r e = absurd (omega arith)
rows_free d f (then v vs) (then u us) n lv lu t r e =
    let whole : bytes_of v ++ (row_of vs ++ t) ≡ bytes_of u ++ (row_of us ++ r) =
    sym (append_assoc (bytes_of v) (row_of vs) t) ∙ e ∙ append_assoc (bytes_of u) (row_of us) r in
    let same : v ≡ u = f v u lv.0 lu.0 (row_of vs ++ t) (row_of us ++ r) whole in
    let rest = append_cancel_left (bytes_of v) (row_of vs ++ t) (row_of us ++ r) (whole ∙ ap (λ x. bytes_of x ++ (row_of us ++ r)) (sym same)) in
    let more : vs ≡ us = rows_free d f vs us (omega arith) lv.1 lu.1 t r rest in
    cc

meets : (v u : Reply) (t r : List ℕ) → bytes_of v ++ t ≡ bytes_of u ++ r → (mark_of u ≡ mark_of v) × (rest_of v ++ t ≡ rest_of u ++ r)
meets v u t r e =
    let f : mark_of v ∷ (rest_of v ++ t) ≡ mark_of u ∷ (rest_of u ++ r) = ap (λ x. x ++ t) (sym (parts v)) ∙ e ∙ ap (λ x. x ++ r) (parts u) in
    (cc, cc)

integer_free : (y z : ℤ) → SFits w64 y → SFits w64 z → (t r : List ℕ) → (signed_decimal y ++ crlf) ++ t ≡ (signed_decimal z ++ crlf) ++ r → y ≡ z
integer_free (pos m) (pos n) fy fz t r e = ap pos (number_free n m r t (omega arith) (omega arith) e)
integer_free (pos m) (negsuc n) fy fz t r e = absurd (minus_first m t ((decimal (suc n) ++ crlf) ++ r) (omega arith) e)
integer_free (negsuc m) (pos n) fy fz t r e = absurd (minus_first n r ((decimal (suc m) ++ crlf) ++ t) (omega arith) (sym e))
integer_free (negsuc m) (negsuc n) fy fz t r e =
    let f : (decimal (suc m) ++ crlf) ++ t ≡ (decimal (suc n) ++ crlf) ++ r = cc in
    let same : suc m ≡ suc n = number_free (suc n) (suc m) r t (omega arith) (omega arith) f in
    cc

bulk_free : (b a t r : List ℕ) → Bulk b → Bulk a → ((decimal (length b) ++ crlf) ++ (b ++ crlf)) ++ t ≡ ((decimal (length a) ++ crlf) ++ (a ++ crlf)) ++ r → b ≡ a
bulk_free b a t r lb la e =
    let hb = decimal (length b) ++ crlf in
    let ha = decimal (length a) ++ crlf in
    let whole : hb ++ ((b ++ crlf) ++ t) ≡ ha ++ ((a ++ crlf) ++ r) = sym (append_assoc hb (b ++ crlf) t) ∙ e ∙ append_assoc ha (a ++ crlf) r in
    let same : length b ≡ length a = number_free (length a) (length b) ((a ++ crlf) ++ r) ((b ++ crlf) ++ t) (omega (arith, la.0)) (omega (arith, lb.0)) whole in
    let rest = append_cancel_left hb ((b ++ crlf) ++ t) ((a ++ crlf) ++ r) (whole ∙ ap (λ k. (decimal k ++ crlf) ++ ((a ++ crlf) ++ r)) (sym same)) in
    filled_free b a t (crlf ++ r) same (rest ∙ append_assoc a crlf r)

-- a number is no nil
head_apart : (n : ℕ) (t r : List ℕ) → n < 2 ^ 64 → (decimal n ++ crlf) ++ t ≡ (nil_text ++ crlf) ++ r → ⊥
head_apart n t r h e = minus_first n t ((49 ∷ crlf) ++ r) h e

-- arrays, where d is left
abbrev Arrays : ℕ → Type 0
Arrays d = (vs us : Replies) → Lawful (array vs) d → Lawful (array us) d → (t r : List ℕ) → rest_of (array vs) ++ t ≡ rest_of (array us) ++ r → vs ≡ us

few : (vs : Replies) (d : ℕ) → Lawful (array vs) d → count vs < 2 ^ 64
few vs zero l = absurd l
few vs (suc d) l = omega (arith, l.0)

arrays_free : (d : ℕ) → Free d → Arrays (suc d)
arrays_free d f vs us lv lu t r e =
    let hv = decimal (count vs) ++ crlf in
    let hu = decimal (count us) ++ crlf in
    let whole : hv ++ (row_of vs ++ t) ≡ hu ++ (row_of us ++ r) = sym (append_assoc hv (row_of vs) t) ∙ e ∙ append_assoc hu (row_of us) r in
    let same : count vs ≡ count us = number_free (count us) (count vs) (row_of us ++ r) (row_of vs ++ t) (few us (suc d) lu) (few vs (suc d) lv) whole in
    let rest = append_cancel_left hv (row_of vs ++ t) (row_of us ++ r) (whole ∙ ap (λ k. (decimal k ++ crlf) ++ (row_of us ++ r)) (sym same)) in
    rows_free d f vs us same lv.1 lu.1 t r rest

each_free : (d : ℕ) → Arrays d → Free d
each_free d f (text b) u lv lu t r e =
    let m = meets (text b) u t r e in
    let a = as_text u m.0 in
    ap text (text_free a.0 b t r (subst (λ x. Lawful x d) a.1 lu) lv (m.1 ∙ ap (λ x. rest_of x ++ r) a.1)) ∙ sym a.1
each_free d f (error b) u lv lu t r e =
    let m = meets (error b) u t r e in
    let a = as_error u m.0 in
    ap error (text_free a.0 b t r (subst (λ x. Lawful x d) a.1 lu) lv (m.1 ∙ ap (λ x. rest_of x ++ r) a.1)) ∙ sym a.1
each_free d f (integer z) u lv lu t r e =
    let m = meets (integer z) u t r e in
    let a = as_integer u m.0 in
    ap integer (integer_free z a.0 lv (subst (λ x. Lawful x d) a.1 lu) t r (m.1 ∙ ap (λ x. rest_of x ++ r) a.1)) ∙ sym a.1
each_free d f (bulk b) u lv lu t r e =
    let m = meets (bulk b) u t r e in
    ⊎_elim
    (λ a. ap bulk (bulk_free b a.0 t r lv (subst (λ x. Lawful x d) a.1 lu) (m.1 ∙ ap (λ x. rest_of x ++ r) a.1)) ∙ sym a.1)
    (λ a. absurd (head_apart (length b) ((b ++ crlf) ++ t) r (omega (arith, lv.0)) (sym (append_assoc (decimal (length b) ++ crlf) (b ++ crlf) t) ∙ m.1 ∙ ap (λ x. rest_of x ++ r) a)))
    (as_bulk u m.0)
each_free d f nil u lv lu t r e =
    let m = meets nil u t r e in
    ⊎_elim
    (λ a.
    let law : Bulk a.0 = subst (λ x. Lawful x d) a.1 lu in
    absurd (head_apart (length a.0) ((a.0 ++ crlf) ++ r) t (omega (arith, law.0)) (sym (append_assoc (decimal (length a.0) ++ crlf) (a.0 ++ crlf) r) ∙ sym (m.1 ∙ ap (λ x. rest_of x ++ r) a.1))))
    (λ a. sym a)
    (as_bulk u m.0)
each_free d f nil_array u lv lu t r e =
    let m = meets nil_array u t r e in
    ⊎_elim
    (λ a.
    let law : Lawful (array a.0) d = subst (λ x. Lawful x d) a.1 lu in
    absurd (head_apart (count a.0) (row_of a.0 ++ r) t (few a.0 d law) (sym (append_assoc (decimal (count a.0) ++ crlf) (row_of a.0) r) ∙ sym (m.1 ∙ ap (λ x. rest_of x ++ r) a.1))))
    (λ a. sym a)
    (as_array u m.0)
each_free d f (array vs) u lv lu t r e =
    let m = meets (array vs) u t r e in
    ⊎_elim
    (λ a. ap array (f vs a.0 lv (subst (λ x. Lawful x d) a.1 lu) t r (m.1 ∙ ap (λ x. rest_of x ++ r) a.1)) ∙ sym a.1)
    (λ a. absurd (head_apart (count vs) (row_of vs ++ t) r (few vs d lv) (sym (append_assoc (decimal (count vs) ++ crlf) (row_of vs) t) ∙ m.1 ∙ ap (λ x. rest_of x ++ r) a)))
    (as_array u m.0)

pub free : (d : ℕ) → Free d
free zero = each_free zero (λ vs us lv lu t r e. absurd lv)
free (suc d) = each_free (suc d) (arrays_free d (free d))
