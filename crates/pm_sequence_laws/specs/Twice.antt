-- How many orders that turn its output on a step has: this project's own choice.
use Rattle.std.specs.Prelude.{◌≡◌, ◌≢◌, ◌+◌, nat_lt, Bool, true, false, Option, Result}
use Rattle.pm_host.specs.declared.fault.Untold.{Untold}
use Rattle.pm_host.specs.declared.job.Job.{Job}
use Rattle.pm_host.specs.Transcript.{Entry}
use Rattle.pm_limits.specs.Guard.{Guarded}
use Rattle.pm_stairs.specs.declared.step.WordStep.{WordStep}
use Rattle.pm_sequence.specs.declared.sequence.Act.{Act}
use Rattle.pm_sequence.specs.declared.sequence.Act.TheVariants as act
use Rattle.pm_sequence.specs.declared.sequence.Sequence.{Sequence}
use Rattle.pm_sequence.specs.declared.step.Step.{Step}
use Rattle.pm_sequence.specs.Frames.{Hears}
use Rattle.pm_sequence.specs.Gate.{is_on_order}
use Rattle.pm_sequence.specs.Sequence.{Acts, on_count}

-- an act by which an order that turns an output on begins in the step under way
abbrev pub turns_on : Act → Bool
turns_on (act.Job job) = is_on_order job
turns_on (act.Begins job back) = false
turns_on (act.Passes back) = false
turns_on (act.Order job) = false
turns_on (act.Ask question) = false
turns_on act.Probe = false
turns_on act.Pause = false
turns_on (act.Wait milliseconds) = false
turns_on act.Again = false
turns_on (act.NoWayBack fault) = false
turns_on (act.Does found) = false
turns_on (act.Leaves why) = false
turns_on (act.Ended why) = false

-- Such an order counts, and there were fewer than two (`counts`). The count begins anew only as a step does: with its first order (`first`), as it
-- is over at once (`passes`), or as it turns its output off at once (`at_once`). No other act changes it.
pub data CountsOn (old new : Sequence) : Act → Type 0 where
  counts : (job : Job) → is_on_order job ≡ true → nat_lt old.turned_on 2 ≡ true → new.turned_on ≡ old.turned_on + 1 → CountsOn old new (act.Job job)
  first : (job : Job) (back : WordStep) → new.turned_on ≡ on_count 0 job → CountsOn old new (act.Begins job back)
  passes : (back : WordStep) → new.turned_on ≡ 0 → CountsOn old new (act.Passes back)
  at_once : new.list.begun ≢ old.list.begun → new.turned_on ≡ 0 → CountsOn old new act.Again
  keeps : (said : Act) → turns_on said ≡ false → new.turned_on ≡ old.turned_on → CountsOn old new said

pub record OrdersStopAtTwo : Type 0 where
  pub acts : (g : Guarded) (under ahead : Option Step) (old new : Sequence) (said : Act) → Acts g under ahead old said new → CountsOn old new said
  pub heard : (g after : Guarded) (old new : Sequence) (entry : Entry) (result : Result (Unit {0}) Untold) → Hears g old entry result after new →
      new.turned_on ≡ old.turned_on
