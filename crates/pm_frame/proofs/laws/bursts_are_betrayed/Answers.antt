use Rattle.pm_frame.proofs.PacketErrorCode.{burst-betrayed, ends-same}
use Rattle.pm_frame.proofs.laws.bursts_are_betrayed.Goals as goal

pub returns : goal.returns
returns c = record {
  code = burst-betrayed;
  whole = λ sent heard h k size other within first second. burst-betrayed sent heard h k size other within
      (ends-same sent heard first second);
}
