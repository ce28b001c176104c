use Rattle.std.proofs.Common.{Some, true≢false, refl, sym, ap, ◌∙◌, arith}
use Rattle.std.specs.Option.{option_map}
use Rattle.order.specs.Orders.{After}
use Rattle.order.proofs.Searches.{better, stays, at_end}
use Rattle.order.proofs.search.Goals as goal
use Rattle.order.proofs.search.Goals.{then-is_after+then-beats, else-is_after, else-is_after-via-then-is_after+else-beats, else-is_after-via-else-is_after}

pub loop-i-preserved : goal.loop-i-preserved
loop-i-preserved g c =
    let order = g.T.TotalOrder.order in
    let reads = g.T.TotalOrder.reads in
    let after = After order (option_map (λ b. reads b.now) c.args.from) in
    elim c.if-is_after.branch [
      | then-is_after+then-beats w ↦ better order reads (λ b. b.now) c.args.items.now after g.met.T.TotalOrder.lawful c.loop-i.i c.loop-i.best c.if-is_after.best _ c.loop-i-test.true c.index-items-i.is c.loop-i.invariant (w.if-is_after.ensures.0 refl) (w.if-beats.ensures.0 refl) w.best-is
      | else-is_after w ↦ stays order reads (λ b. b.now) c.args.items.now after g.met.T.TotalOrder.lawful c.loop-i.i c.loop-i.best c.if-is_after.best (record { ref_ptr = c.args.items.ref_ptr; now = c.index-items-i.result }) c.loop-i-test.true c.index-items-i.is c.loop-i.invariant
          (λ p q. elim w.else-is_after.branch [
            | else-is_after-via-then-is_after+else-beats w' ↦ true≢false (sym (w'.if-beats.ensures.1 q))
            | else-is_after-via-else-is_after w' ↦ true≢false (sym (w'.if-is_after.ensures.1 p))
          ]) w.best-is
    ]

pub returns-in_err-best-clause-first : goal.returns-in_err-best-clause-first
returns-in_err-best-clause-first g c = at_end g.T.TotalOrder.order g.T.TotalOrder.reads (λ b. b.now) c.args.items.now _ c.loop-i.i _ c.loop-i.best c.from_residual.result (omega arith) (omega arith) (ap (option_map (λ p. p.0)) c.in_err-best.was ∙ sym c.from_residual.ensures) c.loop-i.invariant

pub returns-clause-first : goal.returns-clause-first
returns-clause-first g c = at_end g.T.TotalOrder.order g.T.TotalOrder.reads (λ b. b.now) c.args.items.now _ c.loop-i.i _ c.loop-i.best (Some c.in_ok-best.field-0.0) (omega arith) (omega arith) (ap (option_map (λ p. p.0)) c.in_ok-best.was) c.loop-i.invariant
