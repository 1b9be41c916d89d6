-- What is found of a rail: this project's own choice.
use Rattle.std.specs.Prelude.{◌≡◌, true, false, ◌⊎◌, Option, Some}
use Rattle.pm_limits.specs.Guard.{Guarded}
use Rattle.pm_delivery.specs.declared.verdict.Verdict.TheVariants as verdict
use Rattle.pm_sequence.specs.declared.sequence.Act.TheVariants as act
use Rattle.pm_delivery.specs.declared.verdict.Verdict.{Verdict}
use Rattle.pm_sequence.specs.declared.sequence.Sequence.{Sequence}
use Rattle.pm_sequence.specs.declared.step.Step.{Step}
use Rattle.pm_sequence.specs.Sequence.{Acts, is_verdict_good, verdict_in}

-- What is told of a rail is the verdict of what was heard of it, by what the host knows then; and it is what the step asks for.
pub record IsFound (g : Guarded) (under : Option Step) (new : Sequence) (found : Verdict) : Type 0 where
  pub is : found ≡ verdict_in g new.look.delivery
  pub good : is_verdict_good under found ≡ true

-- What is taken of a step that has to deliver: its rail delivers, its voltage is right (of a part without STATUS_WORD), it went off, power good
-- alone is missing (where the step says that this is told only).
pub data IsDelivered (step : Step) : Verdict → Type 0 where
  delivers : IsDelivered step verdict.Delivers
  by_voltage : IsDelivered step verdict.DeliversByVoltage
  went_off : IsDelivered step verdict.WentOff
  power_good : step.looks.tells_power_good ≡ true → IsDelivered step verdict.PowerGoodAlone

pub record FindsAreVerdicts : Type 0 where
  pub finds : (g : Guarded) (under ahead : Option Step) (old new : Sequence) (found : Verdict) → Acts g under ahead old (act.Does found) new →
      IsFound g under new found
  pub delivers : (step : Step) (found : Verdict) → step.looks.must_deliver ≡ true → is_verdict_good (Some step) found ≡ true → IsDelivered step found
