use Rattle.nodes.proofs.BookLaws.{shown, held_book, found, missing, set_lists, set_apart, all_set, all_set_nodes, used_few, few_all}
use Rattle.nodes.proofs.books_are_lawful.Goals as goal

pub returns : goal.returns
returns c = record {
  shows = shown;
  counts = held_book;
  finds = found;
  misses = missing;
  puts = set_lists;
  keeps = set_apart;
  values = all_set;
  nodes = all_set_nodes;
  few_used = used_few;
  few = few_all;
}
