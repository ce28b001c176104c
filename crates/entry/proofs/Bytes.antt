-- Two's complement, and numbers in bytes.
use Rattle.std.proofs.Common.{◌≡◌, ℕ, zero, suc, ◌+◌, ◌-◌, ◌*◌, ◌/◌, ◌%◌, ◌^◌, ◌<◌, Bool, true, false, cond, ltb, List, [], ◌∷◌, length, get_or, ℤ, pos, negsuc, refl, ap, mod-eq_of_lt, pow-suc, arith}
use Rattle.std.specs.Int.Signed.{mag}
use Rattle.std.proofs.lemmas.Nat.{mod_below, div_below}
use Rattle.std.proofs.lemmas.Bool.{ltb-true, ltb-false}
use Rattle.std.proofs.lemmas.Bool.Decides.{nat_tests}
use Rattle.entry.specs.Entry.{residue, low}
use Rattle.entry.specs.Reading.{unlow, back}

pub back_residue : (t : ℕ) (z : ℤ) → mag z < t → back t (residue (2 * t) z) ≡ z
back_residue t (pos n) h = let e : n % (2 * t) ≡ n = mod-eq_of_lt (omega arith) in rw e (grind (arith, nat_tests))
back_residue t (negsuc n) h = let e : n % (2 * t) ≡ n = mod-eq_of_lt (omega arith) in rw e (let f : 2 * t - 1 - (2 * t - 1 - n) ≡ n = omega arith in grind (arith, nat_tests))

pub residue_back : (t u : ℕ) → u < 2 * t → (residue (2 * t) (back t u) ≡ u) × (mag (back t u) < t)
residue_back t u h = go (ltb u t) refl
  where
    go : (b : Bool) → ltb u t ≡ b → (residue (2 * t) (cond b (pos u) (negsuc (2 * t - 1 - u))) ≡ u) × (mag (cond b (pos u) (negsuc (2 * t - 1 - u))) < t)
    go true e = (mod-eq_of_lt (omega arith), ltb-true u t e)
    go false e =
        let l = ltb-false u t e in
        let f : (2 * t - 1 - u) % (2 * t) ≡ 2 * t - 1 - u = mod-eq_of_lt (omega arith) in
        (omega arith, omega arith)

pub residue_lt : (m : ℕ) (z : ℤ) → 0 < m → residue m z < m
residue_lt m (pos n) h = mod_below n m h
residue_lt m (negsuc n) h = omega arith

pub length_low : (n u : ℕ) → length (low n u) ≡ n
length_low zero u = refl
length_low (suc n) u = ap suc (length_low n (u / 256))

pub low_bytes : (n u i : ℕ) → get_or (low n u) i 0 < 256
low_bytes zero u i = omega arith
low_bytes (suc n) u zero = mod_below u 256 (omega arith)
low_bytes (suc n) u (suc i) = low_bytes n (u / 256) i

pub unlow_low : (n u : ℕ) → u < 256 ^ n → unlow (low n u) ≡ u
unlow_low zero u h = omega arith
unlow_low (suc n) u h =
    let p : u < 256 ^ n * 256 = rw pow-suc at h in
    let ih = unlow_low n (u / 256) (div_below u 256 (256 ^ n) (omega arith) p) in
    omega arith

pub low_unlow : (n : ℕ) (bs : List ℕ) → length bs ≡ n → ((i : ℕ) → get_or bs i 0 < 256) → low n (unlow bs) ≡ bs
low_unlow zero [] l h = refl
low_unlow zero (b ∷ bs) l h = absurd (omega arith)
low_unlow (suc n) [] l h = absurd (omega arith)
low_unlow (suc n) (b ∷ bs) l h =
    let ih = low_unlow n bs (omega arith) (λ i. h (suc i)) in
    let k : b < 256 = h 0 in
    let a : (b + 256 * unlow bs) % 256 ≡ b = omega arith in
    let q : (b + 256 * unlow bs) / 256 ≡ unlow bs = omega arith in
    cc

pub unlow_lt : (bs : List ℕ) → ((i : ℕ) → get_or bs i 0 < 256) → unlow bs < 256 ^ length bs
unlow_lt [] h = omega arith
unlow_lt (b ∷ bs) h =
    let ih = unlow_lt bs (λ i. h (suc i)) in
    let k : b < 256 = h 0 in
    let p : 256 ^ suc (length bs) ≡ 256 ^ length bs * 256 = pow-suc 256 (length bs) in
    omega (arith, p)
