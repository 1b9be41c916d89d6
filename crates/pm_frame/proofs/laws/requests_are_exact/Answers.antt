use Rattle.std.proofs.Common.{sym, ◌∙◌}
use Rattle.pm_frame.specs.View.{message_in}
use Rattle.pm_frame.proofs.Layouts.{request_fault-found, request_fault-spelled, message_in-request, request-front}
use Rattle.pm_frame.proofs.laws.requests_are_exact.Goals as goal

pub returns : goal.returns
returns c = record {
  faultless = λ addr bytes none. (message_in bytes, request_fault-found addr bytes none);
  spelled = request_fault-spelled;
  places = message_in-request;
  one = λ addr message other bytes h k. sym (message_in-request addr message bytes h) ∙ message_in-request addr other bytes k;
  front = λ addr message other front rest h k. request-front addr front rest (request_fault-spelled addr message front h)
      (request_fault-spelled addr other _ k);
}
