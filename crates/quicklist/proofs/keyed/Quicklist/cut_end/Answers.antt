use Rattle.std.proofs.Common.{length, sym, ap, ◌∙◌}
use Rattle.std.specs.List.{remove}
use Rattle.store.specs.Lists.{at, put}
use Rattle.store.specs.Answers.{place}
use Rattle.nodes.specs.Nodes.{cut}
use Rattle.quicklist.specs.Store.{lists_of, nodes_in}
use Rattle.quicklist.proofs.Stores.{list_is}
use Rattle.quicklist.proofs.keyed.Quicklist.cut_end.Goals as goal

pub returns : goal.returns
returns c =
    let t = c.args.self.now.tables in
    let k = c.args.key.now in
    let d = c.cut_element.ensures in
    record {
      kept = d.kept;
      lists = d.lists ∙ ap (λ i. put (lists_of t) k (remove (at (lists_of t) k) i)) c.requires.at_end;
      nodes = (d.nodes.0 ∙ ap (cut (nodes_in t k)) (c.requires.at_end ∙ ap (λ vs. place c.args.side (length vs)) (sym (list_is t k))), d.nodes.1);
    }
