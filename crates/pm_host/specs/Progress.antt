-- A job's next stage or its end once its frame was sent, and what the host then holds.
use Rattle.std.specs.Prelude.{Option, Some, None}
use Rattle.pm_host.specs.declared.progress.Progress.{Progress}
use Rattle.pm_host.specs.declared.progress.Progress.TheVariants.{At, Over}
use Rattle.pm_host.specs.declared.stage.Stage.{Stage}
use Rattle.pm_host.specs.declared.state.State.{State}
use Rattle.pm_host.specs.declared.host.Step.{Step}
use Rattle.pm_host.specs.declared.host.Step.TheVariants.{Next, Ended}
use Rattle.pm_host.specs.Image.{held}
use Rattle.pm_host.specs.Summary.{Change}

-- the stage of the open job; None where none is open
abbrev pub stage_of_progress : Progress → Option Stage
stage_of_progress (At stage) = Some stage
stage_of_progress (Over end) = None

-- what a call answers that tells what became of the frame
abbrev pub step_of_progress : Progress → Step
step_of_progress (At stage) = Next
step_of_progress (Over end) = Ended end

-- the step and the host after a frame was sent
abbrev pub change_to : Progress → State → Change
change_to progress state =
    record { after = held (stage_of_progress progress) state; step = step_of_progress progress }
