use Rattle.std.proofs.Common.{◌≡◌, [], sym, refl, ap, ◌∙◌, arith}
use Rattle.listpack.specs.Layout.{read}
use Rattle.listpack.specs.Packs.{values_in}
use Rattle.listpack.specs.Places.{exchanged}
use Rattle.listpack.proofs.Sizes.{entries_none}
use Rattle.listpack.proofs.Contents.{none_short}
use Rattle.listpack.proofs.PackLaws.{held_fits}
use Rattle.listpack.proofs.Exchanges.{read_run, run_of, total_out}
use Rattle.listpack.proofs.Answers.{fitting}
use Rattle.listpack.proofs.pack.Listpack.take_out.Goals as goal
use Rattle.listpack.proofs.pack.Listpack.take_out.Goals.{After-exchange}

pub exchange-requires-clause-run : goal.exchange-requires-clause-run
exchange-requires-clause-run c = run_of [] 0 [] none_short refl (sym entries_none)

same : (c : After-exchange) → exchanged (values_in c.args.self.now) c.args.index c.args.next (read 0 []) ≡ exchanged (values_in c.args.self.now) c.args.index c.args.next []
same c = ap (exchanged (values_in c.args.self.now) c.args.index c.args.next) (read_run [] 0 [] none_short refl (sym entries_none))

-- what is left fits, since the values did before
pub unwrap-requires : goal.unwrap-requires
unwrap-requires c =
    fitting _ _ c.exchange.result (same (goal.at.unwrap-requires c).After-exchange) (omega (arith, total_out (values_in c.args.self.now) c.args.index c.args.next c.requires.order, held_fits c.args.self.now)) c.exchange.ensures.full

pub returns : goal.returns
returns c = rw c.unwrap.ensures at c.exchange.ensures.ok ∙ same (goal.at.returns c).After-exchange
