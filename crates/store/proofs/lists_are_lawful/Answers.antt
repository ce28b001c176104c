use Rattle.store.proofs.ListLaws.{at_put_same, at_put_other, canonical_put, held_put, same_lists, put_at, put_put}
use Rattle.store.proofs.RankLaws.{ascend, found_key, key_filled}
use Rattle.store.proofs.lists_are_lawful.Goals as goal

pub returns : goal.returns
returns c = record {
  same = at_put_same;
  other = at_put_other;
  keeps = canonical_put;
  again = put_put;
  back = put_at;
  counts = held_put;
  equal = same_lists;
  ascend = ascend;
  ranked = found_key;
  filled = key_filled;
}
