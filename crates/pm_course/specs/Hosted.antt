-- How a job begins at a host with limits, and which frame is sent once it stands somewhere. This project's own choice.
use Rattle.std.specs.Prelude.{◌≡◌, Bool, Option, Some, None, Result, Ok, Err, IsSomeAnd}
use Rattle.pm_host.specs.declared.stage.Stage.{Stage}
use Rattle.pm_host.specs.Summary.{host_next, stage_message, step_of}
use Rattle.pm_host.specs.Transcript.{Entry}
use Rattle.pm_limits.specs.declared.fault.LimitFault.{LimitFault}
use Rattle.pm_limits.specs.Guard.{Guarded}
use Rattle.pm_course.specs.declared.frame_course.FrameCourse.{FrameCourse}
use Rattle.pm_course.specs.declared.frames.Sending.{Sending}
use Rattle.pm_course.specs.declared.hosted.Heard.{Heard}
use Rattle.pm_course.specs.Heard.{heard_by}
use Rattle.pm_course.specs.Surprise.{surprises}
use Rattle.pm_course.specs.Frames.{GoesOn, HandsOut, IsSendingOf}

-- whether it began, wherever it stands
abbrev pub begun_as : Result (Option Stage) LimitFault → Result (Unit {0}) LimitFault
begun_as (Ok stage) = Ok tt
begun_as (Err fault) = Err fault

-- the frame of this stage, or none
abbrev pub IsSentAt : Guarded → Option Stage → Option Sending → Type 0
IsSentAt g None sent = sent ≡ None
IsSentAt g (Some stage) sent = IsSomeAnd sent (IsSendingOf g.host.setup.addr (stage_message stage))

-- a course hands out the frame of this stage
abbrev pub HandsOutAt : Guarded → FrameCourse → Option Stage → Guarded → FrameCourse → Type 0
HandsOutAt old was at new is = (sent : Option Sending) → IsSentAt new at sent → HandsOut old was sent new is

-- it goes on by that frame, where the call may be told to stop before an order
abbrev pub GoesOnAt : Bool → Guarded → FrameCourse → Option Stage → Guarded → FrameCourse → Type 0
GoesOnAt stops old was at new is = (sent : Option Sending) → IsSentAt new at sent → GoesOn stops old was sent new is

-- the host and the course hear what became of the frame of the stage at which the open job stands
pub record TellsBoth (old : Guarded) (was : FrameCourse) (stage : Stage) (entry : Entry) (result : Heard) (new : Guarded) (is : FrameCourse) :
    Type 0 where
  pub after : new.host ≡ host_next old.host entry
  pub limits : new.limits ≡ old.limits
  pub registers : new.registers ≡ old.registers
  pub step : result.step ≡ step_of old.host entry
  pub at : result.stage ≡ new.host.stage
  pub heard : is ≡ heard_by was old.host.setup.addr stage entry (surprises old.host stage entry) (step_of old.host entry)
