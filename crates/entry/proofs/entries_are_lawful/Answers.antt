use Rattle.entry.proofs.Laws.{body_back, body_forth, equal, apart, apart_backward, entry_some, entry_few, span_entry, entry_bytes}
use Rattle.entry.proofs.entries_are_lawful.Goals as goal

pub returns : goal.returns
returns c = record {
  decodes = body_back;
  only = body_forth;
  equal = equal;
  apart = apart;
  apart_backward = apart_backward;
  some = entry_some;
  few = entry_few;
  spans = span_entry;
  bytes = entry_bytes;
}
