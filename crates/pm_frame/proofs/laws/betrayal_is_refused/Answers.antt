use Rattle.std.proofs.Common.{[], sym, ◌∙◌, ap}
use Rattle.pm_frame.specs.Fault.{write_fault, answer_fault}
use Rattle.pm_frame.specs.Layout.{sent}
use Rattle.pm_frame.proofs.PacketErrorCode.{is_betrayed-at}
use Rattle.pm_frame.proofs.laws.betrayal_is_refused.Goals as goal

pub returns : goal.returns
returns c = record {
  write = λ addr bytes h none.
      let at = is_betrayed-at [] bytes h in
      c.damage_is_refused.ensures.write_betrayed addr at.last at.front at.wrong (ap (write_fault addr) (sym at.spelled) ∙ none);
  answer = λ addr request bytes h none.
      let at = is_betrayed-at (sent addr request) bytes h in
      c.damage_is_refused.ensures.answer_betrayed addr at.last request at.front at.wrong
      (ap (answer_fault addr request) (sym at.spelled) ∙ none);
}
