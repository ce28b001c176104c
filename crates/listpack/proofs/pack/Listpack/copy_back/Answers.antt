use Rattle.std.proofs.Common.{◌≡◌, ◌-◌, ◌++◌, length, take, drop, ◌∙◌, arith}
use Rattle.std.proofs.lemmas.List.{append-nil, length-drop}
use Rattle.listpack.specs.Layout.{entries, read}
use Rattle.listpack.specs.Packs.{values_in}
use Rattle.listpack.proofs.Sizes.{total_split}
use Rattle.listpack.proofs.Contents.{held}
use Rattle.listpack.proofs.PackLaws.{held_fits, held_short}
use Rattle.listpack.proofs.Spots.{back_there}
use Rattle.listpack.proofs.Exchanges.{shorts_drop, read_run, run_of}
use Rattle.listpack.proofs.Answers.{fitting}
use Rattle.listpack.proofs.pack.Listpack.copy_back.Goals as goal
use Rattle.listpack.proofs.pack.Listpack.copy_back.Goals.{After-count}

-- what is written are the entries of the values from the index on, which fit
written : (c : After-count) → take (c.size-end.result - 1 - c.place_at-from.result) (drop c.place_at-from.result c.args.self.now.bytes) ≡ entries (drop c.args.index (values_in c.args.self.now))
written c =
    let p = c.args.self.now in
    back_there (values_in p) c.args.index p.bytes c.place_at-from.result (c.size-end.result - 1) (held p) c.place_at-from.ensures.there (omega arith)

long : (c : After-count) → c.count.result - c.args.index ≡ length (drop c.args.index (values_in c.args.self.now))
long c = omega (arith, length-drop c.args.index (values_in c.args.self.now))

pub exchange-requires-clause-run : goal.exchange-requires-clause-run
exchange-requires-clause-run c =
    let d = (goal.at.exchange-requires-clause-run c).After-count in
    run_of _ _ _ (shorts_drop c.args.index (values_in c.args.self.now) (held_short c.args.self.now)) (long d) (written d)

-- the values that are read back from there
same : (c : After-count) → read (c.count.result - c.args.index) (take (c.size-end.result - 1 - c.place_at-from.result) (drop c.place_at-from.result c.args.self.now.bytes)) ++ values_in c.empty-back.result ≡ drop c.args.index (values_in c.args.self.now)
same c =
    let ns = drop c.args.index (values_in c.args.self.now) in
    (λ k. read_run ns _ _ (shorts_drop c.args.index (values_in c.args.self.now) (held_short c.args.self.now)) (long c) (written c) k ++ c.empty-back.ensures k) ∙ append-nil ns

pub unwrap-requires : goal.unwrap-requires
unwrap-requires c =
    fitting _ _ c.exchange.result (same (goal.at.unwrap-requires c).After-count) (omega (arith, total_split c.args.index (values_in c.args.self.now), held_fits c.args.self.now)) c.exchange.ensures.full

pub returns : goal.returns
returns c = rw c.unwrap.ensures at c.exchange.ensures.ok ∙ same (goal.at.returns c).After-count
