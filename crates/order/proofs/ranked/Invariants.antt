use Rattle.std.proofs.Common.{◌<◌, length, IfSome, get_or}
use Rattle.order.specs.Orders.{Ranked}
use Rattle.order.proofs.ranked.Given as goal

abbrev pub invariant-loop : goal.invariant-loop
invariant-loop g l =
    IfSome l.found (λ i. i < length l.items) ×
    ((d : g.row.T.Denot) → Ranked g.T.TotalOrder.order (length l.items) (λ j. g.T.TotalOrder.reads (get_or l.items j d)) l.counter l.found)
