-- Which calls are steps of a run of a sequence: this project's own choice.
use Rattle.std.specs.Prelude.{◌≡◌, ℕ, false, List, ◌++◌, Option, Some, Result}
use Rattle.std.specs.Option.{option_map_or}
use Rattle.pm_host.specs.declared.fault.Untold.{Untold}
use Rattle.pm_host.specs.declared.stage.Stage.{Stage}
use Rattle.pm_host.specs.Transcript.{Entry}
use Rattle.pm_limits.specs.Guard.{Guarded}
use Rattle.pm_course.specs.declared.frames.Sending.{Sending}
use Rattle.pm_course.specs.declared.hosted.Heard.{Heard}
use Rattle.pm_sequence.specs.declared.sequence.Act.{Act}
use Rattle.pm_sequence.specs.declared.sequence.Rules.{Rules}
use Rattle.pm_sequence.specs.declared.sequence.Sequence.{Sequence}
use Rattle.pm_sequence.specs.declared.step.Step.{Step}
use Rattle.pm_sequence.specs.Frames.{HandsOut, Hears, HearsAt, heard_in, is_unsent}
use Rattle.pm_sequence_laws.specs.Runs.{Mark, Places, Runs, marks_of, under_at}
use Rattle.pm_sequence_laws.specs.Runs.{Hears as HearsInRun}

-- A frame that is handed out, or an act without one, is a step of the run, whether the guard refuses what the list names or not (`hands`). So is
-- what is heard of a frame (`hears`, or `hears_at` by the stage at which the host's job stands), and of what was asked beside the host's jobs
-- (`answered`).
pub record CallsAreRuns : Type 0 where
  pub hands : (steps : Places) (tries : ℕ) (rules : Rules) (marks : List Mark) (g after : Guarded) (old new : Sequence) (sent : Option Sending)
      (said : Act) → Runs steps tries rules marks old →
      HandsOut g (under_at steps old.list.begun) (steps old.list.begun) old sent said after new →
      Runs steps tries rules (marks_of new.list.begun said ++ marks) new
  pub hears : (g after : Guarded) (old new : Sequence) (entry : Entry) (result : Result (Unit {0}) Untold) → Hears g old entry result after new →
      HearsInRun old new
  pub hears_at : (g after : Guarded) (old new : Sequence) (stage : Stage) (entry : Entry) (result : Heard) →
      HearsAt g old stage entry result after new → HearsInRun old new
  pub answered : (g : Guarded) (old : Sequence) (bytes : List ℕ) → HearsInRun old (heard_in g old bytes)

-- A frame that is handed out is no write of an order that turns on but that of its job's first pass.
abbrev pub OrdersGoOnce : Type 0
OrdersGoOnce = (g after : Guarded) (under ahead : Option Step) (old new : Sequence) (sent : Sending) (said : Act) →
    HandsOut g under ahead old (Some sent) said after new → option_map_or is_unsent after.host.stage false ≡ false
