-- What a write to one list record leaves of the table, by places.
use Rattle.std.proofs.Common.{◌≡◌, ℕ, ◌<◌, ◌≢◌, List, map, length, get_or, set, sym, ap, ◌∙◌, arith, get_or-set_other, get_or-set_same}
use Rattle.std.proofs.Math.ListN.{length-map}
use Rattle.std.proofs.Math.Seq.{map-set, map-set_same}
use Rattle.std.proofs.lemmas.List.{get_or-map}
use Rattle.records.specs.declared.record.ListRecord.{ListRecord}

module _ {X : Type 0} (f : ListRecord → X) (hs : List ListRecord) (e : ℕ) (z : X) where
  pub field_read : (d : ListRecord) → e < length hs → f (get_or hs e d) ≡ get_or (map f hs) e z
  field_read d l = sym (get_or-map f hs e d z l)

  pub field_here : (r : ListRecord) → e < length hs → get_or (map f (set hs e r)) e z ≡ f r
  field_here r l = ap (λ xs. get_or xs e z) (map-set f hs e r) ∙ get_or-set_same (map f hs) e (f r) z (omega (arith, length-map hs f))

  pub field_else : (r : ListRecord) (i : ℕ) → i ≢ e → get_or (map f (set hs e r)) i z ≡ get_or (map f hs) i z
  field_else r i ne = ap (λ xs. get_or xs i z) (map-set f hs e r) ∙ get_or-set_other (map f hs) e i (f r) z ne

  pub field_same : (r d : ListRecord) → f r ≡ f (get_or hs e d) → (i : ℕ) → get_or (map f (set hs e r)) i z ≡ get_or (map f hs) i z
  field_same r d q i = ap (λ xs. get_or xs i z) (map-set_same f hs e r d q)
