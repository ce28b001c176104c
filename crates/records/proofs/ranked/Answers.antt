use Rattle.std.proofs.Common.{Some, None, sym, ◌∙◌, subst}
use Rattle.records.specs.Records.{Ranked}
use Rattle.records.proofs.Places.{blank, first_read}
use Rattle.records.proofs.Ranks.{told_ranked}
use Rattle.records.proofs.ranked.Goals as goal

pub returns-in_err-place : goal.returns-in_err-place
returns-in_err-place c = subst (Ranked c.args.records.now c.args.rank) (sym c.from_residual.ensures) (told_ranked c.args.records.now c.args.rank None (c.in_err-place.ensures.ranked blank))

pub returns-then-is_used : goal.returns-then-is_used
returns-then-is_used c = (told_ranked c.args.records.now c.args.rank (Some c.in_ok-place.place) (c.in_ok-place.ensures.ranked blank)).1 (λ z. c.if-is_used.ensures (first_read c.args.records.now c.in_ok-place.place ∙ z))

pub returns : goal.returns
returns c = (told_ranked c.args.records.now c.args.rank (Some c.in_ok-place.place) (c.in_ok-place.ensures.ranked blank)).0 (sym (first_read c.args.records.now c.in_ok-place.place) ∙ c.if-is_used.ensures)
