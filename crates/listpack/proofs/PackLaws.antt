-- The laws of listpacks.
use Rattle.std.proofs.Common.{◌≡◌, ℕ, ◌≤◌, List, [], ◌++◌, length, get_or, sym, ap, ◌∙◌}
use Rattle.std.proofs.lemmas.List.{take_at}
use Rattle.store.specs.Limits.{longest_value}
use Rattle.store.specs.Lists.{Value}
use Rattle.listpack.specs.declared.pack.Listpack.{Listpack}
use Rattle.listpack.specs.Layout.{Shorts}
use Rattle.listpack.specs.Packs.{most_bytes, total, pack, values, values_in}
use Rattle.listpack.specs.Laws.{PackLaws}
use Rattle.listpack.proofs.Sizes.{total_insert, total_remove, total_set, total_split, lone, takes_split, count_few}
use Rattle.listpack.proofs.Contents.{values_held}
use Rattle.listpack.proofs.Spots.{length_pack}

values_pack : (vs : List Value) (rest : List ℕ) → Shorts vs → total vs ≤ most_bytes → values (pack vs ++ rest) ≡ vs
values_pack vs rest s t = values_held (pack vs ++ rest) vs (record { begins = take_at (pack vs) rest (total vs) (length_pack vs); fits = t; short = s })

pack_apart : (vs ws : List Value) → Shorts vs → Shorts ws → total vs ≤ most_bytes → total ws ≤ most_bytes → pack vs ≡ pack ws → vs ≡ ws
pack_apart vs ws s s' t t' e = sym (values_pack vs [] s t) ∙ ap (λ bs. values (bs ++ [])) e ∙ values_pack ws [] s' t'

-- what a listpack holds fits, is short and few
pub held_fits : (p : Listpack) → total (values_in p) ≤ most_bytes
held_fits p = p.lawful.1

pub held_short : (p : Listpack) (k : ℕ) → length (get_or (values_in p) k []) ≤ longest_value
held_short p = p.lawful.2

pub held_few : (p : Listpack) → length (values_in p) ≤ 250
held_few p = count_few (values_in p) (held_short p) (held_fits p)

pub pack_laws : PackLaws
pack_laws = record {
  reads = values_pack;
  apart = pack_apart;
  long = length_pack;
  fits = held_fits;
  short = held_short;
  few = held_few;
  inserts = total_insert;
  removes = total_remove;
  sets = total_set;
  splits = total_split;
  lone = lone;
  one_side = takes_split;
}
