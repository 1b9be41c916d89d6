use Rattle.std.proofs.Common.{arith}
use Rattle.pm_frame.proofs.Layouts.{answer_fault-front, answer_fault-length, answer-last, answer-ends, request-front, request-no_write}
use Rattle.pm_frame.proofs.Layouts.{write-front, write-last, write-ends}
use Rattle.pm_frame.proofs.laws.damage_is_refused.Goals as goal

pub returns : goal.returns
returns c = record {
  write_cut = λ addr front rest whole more cut. more (write-front addr front rest cut whole);
  write_betrayed = λ addr last front other none. other (write-last addr last front none);
  write_ends = write-ends;
  request_cut = λ addr front rest whole more cut. more (request-front addr front rest cut whole);
  request_written = request-no_write;
  answer_cut = λ addr request front rest whole more cut. more (answer_fault-front addr request front rest whole cut);
  answer_short = λ addr request bytes short none. let whole = answer_fault-length addr request bytes none in omega arith;
  answer_betrayed = λ addr last request front other none. other (answer-last addr last request front none);
  answer_ends = answer-ends;
}
