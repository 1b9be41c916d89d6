-- The frames that a course hands out, and what it makes of what became of them. This project's own choice.
use Rattle.std.specs.Prelude.{◌≡◌, ℕ, Bool, true, false, ◌&&◌, Option, Some, None, Result, Ok, Err, IsSomeAnd, MatchOption}
use Rattle.pm_frame.specs.declared.message.Message.{Message}
use Rattle.pm_frame.specs.Fault.{whole_answer}
use Rattle.pm_frame.specs.Layout.{is_read_message, IsRequest, IsWrite}
use Rattle.pm_host.specs.declared.fault.Untold.{Untold}
use Rattle.pm_host.specs.declared.fault.Untold.TheVariants.{NothingSent, WrongKind}
use Rattle.pm_host.specs.declared.job.Job.{Job as Asked}
use Rattle.pm_host.specs.declared.stage.Stage.{Stage}
use Rattle.pm_host.specs.Refusals.{may_come}
use Rattle.pm_host.specs.Summary.{host_next, sending_in, step_of}
use Rattle.pm_host.specs.Transcript.{Entry}
use Rattle.pm_limits.specs.declared.fault.LimitFault.{LimitFault}
use Rattle.pm_limits.specs.FaultWords.{limit_fault_number}
use Rattle.pm_limits.specs.Guard.{Guarded, LetsBegin, guard_fault, limits_at}
use Rattle.pm_rail.specs.Course.{is_order}
use Rattle.pm_course.specs.declared.course_end.CourseEnd.{CourseEnd}
use Rattle.pm_course.specs.declared.course_end.CourseNext.{CourseNext}
use Rattle.pm_course.specs.declared.course_end.CourseNext.TheVariants.{Job, Ended}
use Rattle.pm_course.specs.declared.frame_course.FrameCourse.{FrameCourse}
use Rattle.pm_course.specs.declared.frames.Sending.{Sending}
use Rattle.pm_course.specs.declared.frames.Sending.TheVariants.{Write, Request}
use Rattle.pm_course.specs.FrameCourse.{SaysNext, refused_by}
use Rattle.pm_course.specs.Heard.{heard_by, is_job_of}
use Rattle.pm_course.specs.Surprise.{surprises}

-- the frame of a message
abbrev pub IsSendingOf : ℕ → Message → Sending → Type 0
IsSendingOf addr message (Write frame) = (is_read_message message ≡ false) × IsWrite addr message frame.items
IsSendingOf addr message (Request frame bytes) =
    (is_read_message message ≡ true) × IsRequest addr message frame.items × (bytes ≡ whole_answer message)

-- what a guard's host is sending, where a job is open
abbrev pub IsSent : Guarded → Option Sending → Type 0
IsSent g sent = MatchOption (sending_in g.host) (sent ≡ None)
    (λ message. IsSomeAnd sent (IsSendingOf g.host.setup.addr message))

-- what a course says by a guard
abbrev pub SaysBy : Guarded → FrameCourse → CourseNext → FrameCourse → Type 0
SaysBy g old result new = SaysNext g.registers (limits_at g old.course.survey.output) g.host old result new

-- A course hands out the frame of its open job (`again`), or begins what it says and hands out the first frame of that (`begun`);
-- or it has ended (`over`), or the guard refuses what it says, which ends it (`refused`).
pub data HandsOut (old : Guarded) (was : FrameCourse) : Option Sending → Guarded → FrameCourse → Type 0 where
  again : (stage : Stage) (sent : Option Sending) → old.host.stage ≡ Some stage → is_job_of was.course.survey.asked stage ≡ true
      → IsSent old sent → HandsOut old was sent old was
  begun : (job : Asked) (sent : Option Sending) (new : Guarded) (is : FrameCourse) → SaysBy old was (Job job) is
      → LetsBegin old job (Ok tt) new → IsSent new sent → HandsOut old was sent new is
  over : (end : CourseEnd) (is : FrameCourse) → SaysBy old was (Ended end) is → HandsOut old was None old is
  refused : (job : Asked) (fault : LimitFault) (is : FrameCourse) → SaysBy old was (Job job) is → guard_fault old job ≡ Some fault
      → HandsOut old was None old (refused_by was (limit_fault_number fault) job)

-- it begins an order, or would if the guard didn't refuse it
abbrev pub begins_order : (old : Guarded) (was : FrameCourse) (sent : Option Sending) (new : Guarded) (is : FrameCourse)
    → HandsOut old was sent new is → Bool
begins_order old was _ _ _ (again stage sent opened own frame) = false
begins_order old was _ _ _ (begun job sent new is says lets frame) = is_order job
begins_order old was _ _ _ (over end is says) = false
begins_order old was _ _ _ (refused job fault is says refuses) = is_order job

-- It hands out what is next, by a call that may be told to stop before an order: it waits there, and nothing changes.
pub data GoesOn (stops : Bool) (old : Guarded) (was : FrameCourse) : Option Sending → Guarded → FrameCourse → Type 0 where
  waits : (job : Asked) (is : FrameCourse) → is_order job && stops ≡ true → SaysBy old was (Job job) is → GoesOn stops old was None old was
  hands : (sent : Option Sending) (new : Guarded) (is : FrameCourse) (does : HandsOut old was sent new is)
      → begins_order old was sent new is does && stops ≡ false → GoesOn stops old was sent new is

-- It is told what became of the frame that the guard's host is sending, which the host is told too: S2 where it sends none, S3 where
-- one of the other kind.
pub data Hears (old : Guarded) (was : FrameCourse) (entry : Entry) : Result (Unit {0}) Untold → Guarded → FrameCourse → Type 0 where
  heard : (stage : Stage) (new : Guarded) → old.host.stage ≡ Some stage → may_come old.host entry ≡ true
      → new.host ≡ host_next old.host entry → new.limits ≡ old.limits → new.registers ≡ old.registers
      → Hears old was entry (Ok tt) new
      (heard_by was old.host.setup.addr stage entry (surprises old.host stage entry) (step_of old.host entry))
  nothing : old.host.stage ≡ None → Hears old was entry (Err NothingSent) old was
  other : (stage : Stage) → old.host.stage ≡ Some stage → may_come old.host entry ≡ false
      → Hears old was entry (Err WrongKind) old was
