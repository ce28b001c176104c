use Rattle.std.proofs.Common.{◌≡◌, ℕ, ◌+◌, drop, sym, ap, subst, arith}
use Rattle.store.specs.Rows.{spot}
use Rattle.flat.specs.Records.{rows}
use Rattle.flat.proofs.Scans.{spot_here, spot_later, spot_pass, spot_end}
use Rattle.flat.proofs.records.find.Goals as goal
use Rattle.flat.proofs.records.find.Goals.{then-has_key+else-left-eq0, else-has_key}

pub loop-i-init : goal.loop-i-init
loop-i-init c = omega arith

pub loop-i-preserved : goal.loop-i-preserved
loop-i-preserved c =
    let k = c.args.key.now in
    let rs = c.args.records.now in
    let i = c.loop-i.i in
    let G = λ (j : ℕ). (i + 1) + spot k j (rows (drop (i + 1) rs)) ≡ spot k c.args.index (rows rs) in
    elim c.if-has_key.branch [
      | then-has_key+else-left-eq0 w ↦ subst G (sym w.left-is) (omega (arith, w.if-left-eq0.false, spot_later k rs i c.has_key.result c.loop-i-test.true c.has_key.ensures c.loop-i.left w.if-has_key.true (omega (arith, w.if-left-eq0.false))))
      | else-has_key w ↦ subst G (sym w.left-is) (omega (arith, spot_pass k rs i c.has_key.result c.loop-i-test.true c.has_key.ensures c.loop-i.left w.if-has_key.false))
    ]

pub returns-then-left-eq0 : goal.returns-then-left-eq0
returns-then-left-eq0 c =
    let k = c.args.key.now in
    let rs = c.args.records.now in
    let i = c.loop-i.i in
    omega (arith, ap (λ j. spot k j (rows (drop i rs))) c.if-left-eq0.true, spot_here k rs i c.has_key.result c.loop-i-test.true c.has_key.ensures c.if-has_key.true)

pub returns : goal.returns
returns c = omega (arith, spot_end c.args.key.now c.loop-i.left c.args.records.now c.loop-i.i (omega arith))
