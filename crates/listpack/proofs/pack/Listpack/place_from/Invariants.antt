use Rattle.std.proofs.Common.{◌≡◌}
use Rattle.listpack.specs.Packs.{values_in}
use Rattle.listpack.specs.Places.{place}
use Rattle.listpack.proofs.pack.Listpack.place_from.Given as goal

abbrev pub invariant-loop : goal.invariant-loop
invariant-loop l = l.at ≡ place (values_in l.self) l.counter
