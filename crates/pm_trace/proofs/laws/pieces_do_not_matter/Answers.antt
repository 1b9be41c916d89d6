use Rattle.pm_trace.specs.Lemmas.Said.{now-append}
use Rattle.pm_trace.proofs.Pieces.{decoded_lines, decoded_counts, called_lines, called_kept, said_front, stopped_lines, total}
use Rattle.pm_trace.proofs.laws.pieces_do_not_matter.Goals as goal

pub returns : goal.returns
returns c = record {
  next = now-append;
  lines = decoded_lines;
  counts = decoded_counts;
  total = total;
  refused = stopped_lines;
  so_far = called_lines;
  kept = called_kept;
  front = said_front;
}
