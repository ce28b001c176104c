-- What is taken from the crate of entries, at values that are short enough.
use Rattle.std.proofs.Common.{◌≡◌, ℕ, ◌-◌, ◌≤◌, List, [], ◌∷◌, ◌++◌, length, take, Some, ap, ◌∙◌, append_assoc, arith}
use Rattle.std.proofs.lemmas.List.{take_at}
use Rattle.store.specs.Limits.{longest_value}
use Rattle.store.specs.Lists.{Value}
use Rattle.entry.specs.Entry.{body, entry, span_in}
use Rattle.entry.specs.Reading.{value_in}
use Rattle.entry.proofs.Laws as laws
use Rattle.listpack.specs.Layout.{step, given, first_value}

module _ (v : Value) (short : length v ≤ longest_value) where
  pub entry_some : 2 ≤ length (entry v)
  entry_some = laws.entry_some v short

  pub entry_few : length (entry v) ≤ 67
  entry_few = laws.entry_few v short

  pub span_first : (x : List ℕ) → span_in (entry v ++ x) ≡ Some (length (entry v))
  span_first x = laws.span_entry v x short

  pub value_first : (x : List ℕ) → first_value (entry v ++ x) ≡ v
  unfolding first_value
  value_first x =
      let k : length (body v) ≡ length (entry v) - 1 = omega (arith, laws.length_entry v) in
      ap (λ o. given (value_in (take (step o - 1) (entry v ++ x)))) (span_first x)
      ∙ ap (λ bs. given (value_in (take (length (entry v) - 1) bs))) (append_assoc (body v) (length (body v) ∷ []) x)
      ∙ ap (λ bs. given (value_in bs)) (take_at (body v) (length (body v) ∷ x) (length (entry v) - 1) k)
      ∙ ap given (laws.body_back v short)
