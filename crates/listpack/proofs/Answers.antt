-- What a change of a listpack answers.
use Rattle.std.proofs.Common.{◌≡◌, ◌↔◌, ℕ, ◌<◌, ◌≤◌, Bool, false, leb, List, length, sym, refl, ap, subst, ◌∙◌, Ok, Err, Result, IsOk, IsTrue, OnOk, OnErr, IsOkUnless, arith}
use Rattle.std.proofs.lemmas.Bool.{leb-true, leb-false, le-leb, lt-leb}
use Rattle.store.specs.Limits.{longest_value}
use Rattle.store.specs.Lists.{Value}
use Rattle.listpack.specs.declared.pack.PackError.{PackError}
use Rattle.listpack.specs.declared.pack.PackError.TheVariants.{OutOfRange, LongValue, Full}
use Rattle.listpack.specs.Layout.{most_bytes, total}
use Rattle.listpack.specs.Changes.{Answered}

-- a test of equal sizes
pub fits_as : (v : Value) (m n : ℕ) → length v ≤ longest_value → m ≡ n → IsTrue (leb m most_bytes) ↔ ((length v ≤ longest_value) × IsTrue (leb n most_bytes))
fits_as v m n h e = ((λ t. (h, ap (λ k. leb k most_bytes) (sym e) ∙ t)), (λ t. ap (λ k. leb k most_bytes) e ∙ t.1))

-- what is put in the place of others is answered by whether it fits
pub answered : {U : Type 0} (v : Value) (us ws : List Value) (r : Result U PackError) → length v ≤ longest_value → us ≡ ws
    → IsOkUnless r Full → OnOk r (total us ≤ most_bytes) → OnErr r (most_bytes < total us) → Answered v ws r
answered v us ws (Ok _) h e only fits full = (h, subst (λ xs. total xs ≤ most_bytes) e fits)
answered v us ws (Err OutOfRange) h e only fits full = cc
answered v us ws (Err LongValue) h e only fits full = cc
answered v us ws (Err Full) h e only fits full = (h, subst (λ xs. most_bytes < total xs) e full)

-- what is left of a change that is made, in the words of an equal list
pub ok_as : {U : Type 0} (xs us ws : List Value) (r : Result U PackError) → us ≡ ws → OnOk r (xs ≡ us) → OnOk r (xs ≡ ws)
ok_as xs us ws (Ok _) e ok = ok ∙ e
ok_as xs us ws (Err _) e ok = tt

-- a change that fits is made
pub fitting : {U : Type 0} (us ws : List Value) (r : Result U PackError) → us ≡ ws → total ws ≤ most_bytes → OnErr r (most_bytes < total us) → IsOk r
fitting us ws (Ok _) e fits full = refl
fitting us ws (Err _) e fits full = absurd (omega (arith, ap total e))

-- the clauses of the public functions: when a change is made at an index that there is, and when there is no room
module _ {U P : Type 0} (there : P) (v : Value) (ws : List Value) (b : Bool) (test : b ≡ leb (total ws) most_bytes) where
  pub made : (r : Result U PackError) → Answered v ws r → IsOk r ↔ (P × (length v ≤ longest_value) × IsTrue b)
  made (Ok _) a = ((λ _. (there, a.0, test ∙ le-leb (total ws) most_bytes a.1)), (λ _. refl))
  made (Err OutOfRange) a = absurd a
  made (Err LongValue) a = ((λ e. cc), (λ q. absurd (omega (arith, q.1))))
  made (Err Full) a = ((λ e. cc), (λ q. absurd (omega (arith, leb-true (total ws) most_bytes (sym test ∙ q.2)))))

  pub full : (r : Result U PackError) → Answered v ws r → (r ≡ Err Full) ↔ (P × (length v ≤ longest_value) × (b ≡ false))
  full (Ok _) a = ((λ e. cc), (λ q. absurd (omega (arith, leb-false (total ws) most_bytes (sym test ∙ q.2)))))
  full (Err OutOfRange) a = absurd a
  full (Err LongValue) a = ((λ e. cc), (λ q. absurd (omega (arith, q.1))))
  full (Err Full) a = ((λ _. (there, a.0, test ∙ lt-leb (total ws) most_bytes a.1)), (λ _. refl))
