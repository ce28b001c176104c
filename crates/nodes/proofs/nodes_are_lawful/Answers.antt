use Rattle.nodes.proofs.NodeLaws.{flat_pushed, flat_cut, flat_popped, flat_added, flat_changed, filled_pushed, filled_cut, filled_added, filled_changed, few_nodes}
use Rattle.nodes.proofs.nodes_are_lawful.Goals as goal

pub returns : goal.returns
returns c = record {
  pushes = flat_pushed;
  cuts = flat_cut;
  pops = flat_popped;
  adds = flat_added;
  changes = flat_changed;
  pushes_filled = filled_pushed;
  cuts_filled = filled_cut;
  adds_filled = filled_added;
  changes_filled = filled_changed;
  few = few_nodes;
}
