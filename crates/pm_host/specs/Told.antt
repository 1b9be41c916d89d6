-- What a host is told, as an entry of its transcript, and what a call that tells it answers.
use Rattle.std.specs.Prelude.{Bool, true, false, not}
use Rattle.pm_frame.specs.Layout.{is_read_message}
use Rattle.pm_host.specs.declared.stage.Stage.{Stage}
use Rattle.pm_host.specs.declared.host.Step.{Step}
use Rattle.pm_host.specs.declared.host.Step.TheVariants.{Next, Ended}
use Rattle.pm_host.specs.declared.host.Told.{Told}
use Rattle.pm_host.specs.declared.host.Told.TheVariants as told
use Rattle.pm_host.specs.Summary.{stage_message}
use Rattle.pm_host.specs.Transcript.{Entry, Accepted, Finished, Got, Restarted}

abbrev pub entry_told : Told → Entry
entry_told (told.Finished acked) = Finished acked
entry_told (told.Got bytes) = Got bytes.now

-- the entry says what came of a frame
abbrev pub is_of_frame : Entry → Bool
is_of_frame (Accepted job) = false
is_of_frame (Finished acked) = true
is_of_frame (Got bytes) = true
is_of_frame Restarted = false

-- it is of the kind of the stage's frame: the end of a write, or what came back for a request
abbrev pub is_awaited : Stage → Told → Bool
is_awaited stage (told.Finished acked) = not (is_read_message (stage_message stage))
is_awaited stage (told.Got bytes) = is_read_message (stage_message stage)

-- a fact that holds if the job has ended
abbrev pub OnEnded : Step → Type 0 → Type 0
OnEnded Next fact = Unit {0}
OnEnded (Ended end) fact = fact
