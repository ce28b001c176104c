-- What comparing bytes answers, by the order of keys.
use Rattle.std.specs.Prelude.{◌≡◌}
use Rattle.std.specs.declared.cmp.Ordering.{Ordering}
use Rattle.std.proofs.Common.{sym, ◌∙◌}
use Rattle.std.specs.Cmp.Lexicographic.{slice_cmp}
use Rattle.std.specs.Ordering.{nat_cmp}
use Rattle.order.specs.Keys.{Key, key_order}
use Rattle.order.specs.KeyLaws.{same_order}

-- what `cmp` answers of two slices of bytes
pub said : (a b : Key) (r : Ordering) → r ≡ slice_cmp nat_cmp a b → r ≡ key_order a b
said a b r h = h ∙ sym (same_order a b)
