-- What is read from the bytes of a listpack.
use Rattle.std.proofs.Common.{◌≡◌, ℕ, zero, suc, ◌+◌, ◌*◌, ◌/◌, ◌%◌, ◌≤◌, List, [], ◌∷◌, ◌++◌, length, get_or, take, drop, sym, refl, ap, ◌∙◌, subst, append_assoc, arith}
use Rattle.std.proofs.lemmas.List.{take-append-drop, drop_at}
use Rattle.store.specs.Lists.{Value}
use Rattle.entry.specs.Entry.{entry, span_in}
use Rattle.listpack.specs.Layout.{most_bytes, entries, total, header, pack, step, read, values, Shorts, Lawful}
use Rattle.listpack.specs.declared.pack.Listpack.{Listpack}
use Rattle.listpack.specs.Packs.{values_in}
use Rattle.listpack.proofs.Codec.{value_first, span_first}
use Rattle.listpack.proofs.Sizes.{entries_more, count_few}

pub read_entries : (vs : List Value) (x : List ℕ) → Shorts vs → read (length vs) (entries vs ++ x) ≡ vs
unfolding read
read_entries [] x h = refl
read_entries (v ∷ vs) x h =
    let e : entries (v ∷ vs) ++ x ≡ entry v ++ (entries vs ++ x) = ap (λ bs. bs ++ x) (entries_more v vs) ∙ append_assoc (entry v) (entries vs) x in
    let d : drop (step (span_in (entry v ++ (entries vs ++ x)))) (entry v ++ (entries vs ++ x)) ≡ entries vs ++ x =
    ap (λ o. drop (step o) (entry v ++ (entries vs ++ x))) (span_first v (h zero) (entries vs ++ x)) ∙ drop_at (entry v) (entries vs ++ x) (length (entry v)) refl in
    ap (read (suc (length vs))) e
    ∙ ap (λ w. w ∷ read (length vs) (drop (step (span_in (entry v ++ (entries vs ++ x)))) (entry v ++ (entries vs ++ x)))) (value_first v (h zero) (entries vs ++ x))
    ∙ ap (λ bs. v ∷ read (length vs) bs) d
    ∙ ap (λ ws. v ∷ ws) (read_entries vs x (λ k. h (suc k)))

-- bytes that begin with the listpack of values
pub record Holds (bytes : List ℕ) (vs : List Value) : Type 0 where
  pub begins : take (total vs) bytes ≡ pack vs
  pub fits : total vs ≤ most_bytes
  pub short : Shorts vs

-- the bytes of a listpack one by one, and what is behind them
pub spread : (bytes : List ℕ) (vs : List Value) → take (total vs) bytes ≡ pack vs → bytes ≡ header (total vs) (length vs) ++ (entries vs ++ 255 ∷ drop (total vs) bytes)
unfolding pack
spread bytes vs e =
    let r = drop (total vs) bytes in
    sym (take-append-drop (total vs) bytes) ∙ ap (λ bs. bs ++ r) e
    ∙ append_assoc (header (total vs) (length vs)) (entries vs ++ 255 ∷ []) r ∙ ap (λ bs. header (total vs) (length vs) ++ bs) (append_assoc (entries vs) (255 ∷ []) r)

pub values_held : (bytes : List ℕ) (vs : List Value) → Holds bytes vs → values bytes ≡ vs
unfolding values
values_held bytes vs h =
    let x : List ℕ = 255 ∷ drop (total vs) bytes in
    let n = length vs in
    let c : n % 256 + 256 * (n / 256 % 256) ≡ n = omega (arith, count_few vs h.short h.fits) in
    ap values (spread bytes vs h.begins) ∙ ap (λ m. read m (entries vs ++ x)) c ∙ read_entries vs x h.short

-- a listpack's bytes hold its values, and bytes that hold values are a listpack's
pub lawful_holds : (bytes : List ℕ) → Lawful bytes → Holds bytes (values bytes)
lawful_holds bytes l = record { begins = l.0; fits = l.1; short = l.2 }

pub holds_lawful : (bytes : List ℕ) (vs : List Value) → Holds bytes vs → Lawful bytes
holds_lawful bytes vs h =
    let h' : Holds bytes (values bytes) = subst (Holds bytes) (sym (values_held bytes vs h)) h in
    (h'.begins, h'.fits, h'.short)

-- what the header says
pub size_said : (bytes : List ℕ) (vs : List Value) → Holds bytes vs → get_or bytes 0 0 + 256 * get_or bytes 1 0 ≡ total vs
size_said bytes vs h =
    let n = total vs in
    let c : n % 256 + 256 * (n / 256 % 256) ≡ n = omega (arith, h.fits) in
    ap (λ bs. get_or bs 0 0 + 256 * get_or bs 1 0) (spread bytes vs h.begins) ∙ c

pub count_said : (bytes : List ℕ) (vs : List Value) → Holds bytes vs → get_or bytes 4 0 + 256 * get_or bytes 5 0 ≡ length vs
count_said bytes vs h =
    let n = length vs in
    let c : n % 256 + 256 * (n / 256 % 256) ≡ n = omega (arith, count_few vs h.short h.fits) in
    ap (λ bs. get_or bs 4 0 + 256 * get_or bs 5 0) (spread bytes vs h.begins) ∙ c

-- the same of a listpack
pub held : (p : Listpack) → Holds p.bytes (values_in p)
held p = lawful_holds p.bytes p.lawful

pub size_held : (p : Listpack) → get_or p.bytes 0 0 + 256 * get_or p.bytes 1 0 ≡ total (values_in p)
size_held p = size_said p.bytes (values_in p) (held p)

pub count_held : (p : Listpack) → get_or p.bytes 4 0 + 256 * get_or p.bytes 5 0 ≡ length (values_in p)
count_held p = count_said p.bytes (values_in p) (held p)

pub none_short : Shorts []
none_short k = omega arith

-- the listpack of no values
pub holds_none : (bytes rest : List ℕ) → bytes ≡ header 7 0 ++ (255 ∷ rest) → Holds bytes []
unfolding pack entries
holds_none bytes rest e = record { begins = ap (take 7) e; fits = omega arith; short = none_short }
