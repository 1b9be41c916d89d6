use Rattle.pm_frame.proofs.SharedCodes.{answer_fault-alike, IsAnswer-alike, answers-shared}
use Rattle.pm_frame.proofs.laws.late_answers_pass.Goals as goal

pub returns : goal.returns
returns c = record { judged = answer_fault-alike; passes = IsAnswer-alike; shared = answers-shared }
