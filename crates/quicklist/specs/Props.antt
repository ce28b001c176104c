-- What a quicklist keeps can be so in one way only: its type asks for this proof.
use Rattle.std.specs.Prelude.{◌≡◌}
use Rattle.std.specs.Coded.{le_prop}
use native.Mathlib.Nat.{ℕ_set}
use Rattle.quicklist.specs.declared.table.Tables.{Tables}
use Rattle.quicklist.specs.Tables.{Whole}
use Rattle.quicklist.specs.LinkProps.{Sound-prop, Pool-prop}

pub Whole-prop : (t : Tables) → IsProp (Whole t)
Whole-prop t x y = λ k. record {
  sized = (ℕ_set _ _ x.sized.0 y.sized.0 k, le_prop x.sized.1 y.sized.1 k, le_prop x.sized.2 y.sized.2 k);
  within = le_prop x.within y.within k;
  linked = Sound-prop _ _ x.linked y.linked k;
  pooled = Pool-prop _ _ _ _ x.pooled y.pooled k;
  loaded = λ e i l h. le_prop (x.loaded e i l h) (y.loaded e i l h) k;
  counted = λ e l. ℕ_set _ _ (x.counted e l) (y.counted e l) k;
  totalled = ℕ_set _ _ x.totalled y.totalled k;
  named = λ e i h. let p : x.named e i h ≡ y.named e i h = absurd (x.named e i h) in p k;
}
