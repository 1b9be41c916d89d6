use Rattle.pm_frame.proofs.PacketErrorCode.{burst-betrayed, betrayed-by_code, few-betrayed, odd-betrayed}
use Rattle.pm_frame.proofs.laws.damage_is_betrayed.Goals as goal

pub returns : goal.returns
returns c = record {
  burst = λ before sent heard h k good size other within. betrayed-by_code before sent heard size good
      (burst-betrayed sent heard h k size other within);
  few = λ before sent heard h k good size other short few. betrayed-by_code before sent heard size good
      (few-betrayed sent heard h k size other short few);
  odd = λ before sent heard h k good size odd. betrayed-by_code before sent heard size good (odd-betrayed sent heard h k size odd);
}
