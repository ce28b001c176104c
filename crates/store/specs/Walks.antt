-- One step of a walk along a list.
use Rattle.std.specs.Prelude.{◌≡◌, List, [], ◌∷◌, Some, None, Option}

-- the first of the items to come is given, and the others are to come then; where none is to come none is given
abbrev pub GivesFirst : {X : Type 0} → List X → Option X → List X → Type 0
GivesFirst items None after = (items ≡ []) × (after ≡ [])
GivesFirst items (Some x) after = items ≡ x ∷ after
