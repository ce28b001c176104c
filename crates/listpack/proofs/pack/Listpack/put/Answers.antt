use Rattle.std.proofs.Common.{◌≡◌, ◌≤◌, [], ◌∷◌, length, take, refl, ap}
use Rattle.store.specs.Limits.{longest_value}
use Rattle.listpack.specs.Layout.{entries, read}
use Rattle.listpack.specs.Packs.{values_in}
use Rattle.listpack.specs.Places.{exchanged}
use Rattle.listpack.proofs.Exchanges.{shorts_one, read_run, run_of, cut_entry}
use Rattle.listpack.proofs.Answers.{answered, ok_as}
use Rattle.listpack.proofs.pack.Listpack.put.Goals as goal
use Rattle.listpack.proofs.pack.Listpack.put.Goals.{In_ok-n}

short : (c : In_ok-n) → length c.args.value.now ≤ longest_value
short c = (rw c.in_ok-n.ensures.ok_part at c.encode.ensures).0

-- what is written is the entry of the value
written : (c : In_ok-n) → take c.in_ok-n.n c.encode.new.out ≡ entries (c.args.value.now ∷ [])
written c = let w = rw c.in_ok-n.ensures.ok_part at c.encode.ensures in cut_entry c.args.value.now c.in_ok-n.n c.encode.new.out _ w.2 w.3

pub exchange-requires-clause-run : goal.exchange-requires-clause-run
exchange-requires-clause-run c =
    let v = c.args.value.now in
    let d = (goal.at.exchange-requires-clause-run c).In_ok-n in
    run_of (v ∷ []) 1 (take c.in_ok-n.n c.encode.new.out) (shorts_one v (short d)) refl (written d)

same : (c : In_ok-n) → exchanged (values_in c.args.self.now) c.args.index c.args.next (read 1 (take c.in_ok-n.n c.encode.new.out)) ≡ exchanged (values_in c.args.self.now) c.args.index c.args.next (c.args.value.now ∷ [])
same c =
    let v = c.args.value.now in
    ap (exchanged (values_in c.args.self.now) c.args.index c.args.next) (read_run (v ∷ []) 1 (take c.in_ok-n.n c.encode.new.out) (shorts_one v (short c)) refl (written c))

pub returns-clause-answered : goal.returns-clause-answered
returns-clause-answered c =
    let x = c.exchange.ensures in
    answered c.args.value.now _ _ c.exchange.result (short (goal.at.returns-clause-answered c).In_ok-n) (same (goal.at.returns-clause-answered c).In_ok-n) x.only x.fits x.full

pub returns-clause-ok : goal.returns-clause-ok
returns-clause-ok c = ok_as _ _ _ c.exchange.result (same (goal.at.returns-clause-ok c).In_ok-n) c.exchange.ensures.ok
