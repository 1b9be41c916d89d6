use Rattle.std.proofs.Common.{sym, ◌∙◌}
use Rattle.pm_frame.specs.View.{message_in}
use Rattle.pm_frame.proofs.Layouts.{write_fault-found, write_fault-spelled, message_in-write, write-front}
use Rattle.pm_frame.proofs.laws.writes_are_exact.Goals as goal

pub returns : goal.returns
returns c = record {
  faultless = λ addr bytes are_bytes none. (message_in bytes, write_fault-found c.payloads_are_short.ensures addr bytes are_bytes none);
  spelled = write_fault-spelled;
  places = message_in-write;
  one = λ addr message other bytes h k. sym (message_in-write addr message bytes h) ∙ message_in-write addr other bytes k;
  front = λ addr message other front rest h k. write-front addr front rest (write_fault-spelled addr message front h)
      (write_fault-spelled addr other _ k);
}
