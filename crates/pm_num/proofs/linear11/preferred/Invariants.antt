use Rattle.std.proofs.Common.{◌≡◌, ◌-◌, ◌^◌, ◌<◌, pos, ◌*ℤ◌}
use Rattle.pm_num.specs.Steps.{IsSpelling, IsLarge}
use Rattle.pm_num.proofs.linear11.preferred.Given as goal

abbrev pub invariant-loop-place : goal.invariant-loop-place
invariant-loop-place l = record {
  same : l.mantissa *ℤ pos (2 ^ l.place) ≡ l.fn.s.mantissa *ℤ pos (2 ^ l.fn.s.place);
  spelling : IsSpelling l.mantissa l.place;
  large : 16 < l.place → IsLarge l.mantissa;
}

abbrev pub decreases-loop-place : goal.decreases-loop-place
decreases-loop-place l = 16 - l.place
