use Rattle.std.proofs.Common.{◌≡◌, ℕ, ◌<◌, length, IfSome, Option, get_or, subst, arith}
use Rattle.std.proofs.lemmas.Option.{IfSome_then}
use Rattle.order.specs.Orders.{Ranked}
use Rattle.order.proofs.Ranks.{first_ranked, next_ranked, none_ranked, within_some}
use Rattle.order.proofs.ranked.Goals as goal

pub loop-init : goal.loop-init
loop-init g c = (within_some (length c.args.items.now) c.least-found.result c.least-found.ensures.within, λ d. first_ranked g.T.TotalOrder.order (length c.args.items.now) _ c.least-found.result (c.least-found.ensures.first d))

pub returns-in_err-found-clause-ranked : goal.returns-in_err-found-clause-ranked
returns-in_err-found-clause-ranked g c d = none_ranked g.T.TotalOrder.order (length c.args.items.now) _ c.loop.counter c.args.rank c.loop.found c.from_residual.result c.in_err-found.was c.from_residual.ensures (omega arith) (c.loop.invariant.1 d)

pub loop-preserved : goal.loop-preserved
loop-preserved g c =
    let n = length c.args.items.now in
    let b : c.in_ok-found.field-0 < n = subst (λ (o : Option ℕ). IfSome o (λ i. i < n)) c.in_ok-found.was c.loop.invariant.0 in (
      IfSome_then c.least_after-found.result c.least_after-found.ensures.within (λ i h. h.0),
      (λ d. next_ranked g.T.TotalOrder.order n _ c.loop.counter c.in_ok-found.field-0 c.loop.found c.least_after-found.result c.in_ok-found.was (c.loop.invariant.1 d) (c.least_after-found.ensures.first d b)),
    )

pub returns-clause-within : goal.returns-clause-within
returns-clause-within g c = c.loop.invariant.0

pub returns-clause-ranked : goal.returns-clause-ranked
returns-clause-ranked g c d = let m : c.loop.counter ≡ c.args.rank = omega arith in subst (λ (k : ℕ). Ranked g.T.TotalOrder.order (length c.args.items.now) (λ j. g.T.TotalOrder.reads (get_or c.args.items.now j d)) k c.loop.found) m (c.loop.invariant.1 d)
