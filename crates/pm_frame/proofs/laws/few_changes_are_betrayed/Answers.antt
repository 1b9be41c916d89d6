use Rattle.pm_frame.proofs.PacketErrorCode.{ends-same, far-pass, few-betrayed, odd-betrayed}
use Rattle.pm_frame.proofs.laws.few_changes_are_betrayed.Goals as goal

pub returns : goal.returns
returns c = record {
  few = few-betrayed;
  few_whole = λ sent heard h k size other short few first second. few-betrayed sent heard h k size other short few
      (ends-same sent heard first second);
  odd = odd-betrayed;
  odd_whole = λ sent heard h k size odd first second. odd-betrayed sent heard h k size odd (ends-same sent heard first second);
  far_pass = far-pass;
}
