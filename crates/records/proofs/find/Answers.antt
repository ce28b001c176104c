use Rattle.std.proofs.Common.{◌≡◌, rules}
use Rattle.std.proofs.lemmas.Iterator.{IsFirst-from_position, YieldsList-from_slice}
use borrow.Author.Tests.{tests}
use Rattle.order.specs.Keys.{key_in}
use Rattle.records.proofs.Places.{first_found}
use Rattle.records.proofs.find.Goals as goal

pub returns-clause-found : goal.returns-clause-found
returns-clause-found c =
    let k = c.args.key.now in
    first_found c.args.records.now k c.position.result
    (IsFirst-from_position _ _ c.position.result (λ it. (it.first ≡ 0 → ⊥) × (key_in it.name ≡ k)) (λ it. (it.first ≡ 0 → ⊥) × (key_in it.name ≡ k) → ⊥) c.position.ensures.ran (YieldsList-from_slice c.args.records.now cc) (λ x q k. search (rules, tests)) (λ x q k. search (rules, tests)))
