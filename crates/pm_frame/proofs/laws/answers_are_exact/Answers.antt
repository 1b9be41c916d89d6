use Rattle.std.proofs.Common.{sym, ◌∙◌}
use Rattle.pm_frame.proofs.Layouts.{answer_fault-found, answer_fault-spelled, answer-payload, answer-front}
use Rattle.pm_frame.proofs.laws.answers_are_exact.Goals as goal

pub returns : goal.returns
returns c = record {
  faultless = λ addr request bytes reads fits none. (_, answer_fault-found addr request bytes reads fits none);
  spelled = answer_fault-spelled;
  places = answer-payload;
  one = λ addr request payload other bytes h k. sym (answer-payload addr request payload bytes h)
      ∙ answer-payload addr request other bytes k;
  front = answer-front;
}
