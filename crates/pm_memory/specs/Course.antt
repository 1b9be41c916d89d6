-- What the calls of a course answer and write, by the definitions of pm_course. This project's own choice.
use Rattle.std.specs.Prelude.{◌≡◌, ℕ, ℤ, Bool, true, false, nat_lt, if◌then◌else◌, Option, Some, None, is_some, option_and_then, take}
use Rattle.std.specs.Prelude.{Result, Ok, Err}
use Rattle.std.specs.Option.{option_map_or}
use Rattle.pm_table.specs.declared.reg.Reg.{Reg}
use Rattle.pm_table.specs.Cell.{is_voltage, register_of}
use Rattle.pm_table.specs.Rules.{rule}
use Rattle.pm_host.specs.declared.fault.HostFault.TheVariants.{BadWord, UnknownOutput}
use Rattle.pm_host.specs.declared.fault.Untold.{Untold}
use Rattle.pm_host.specs.declared.job.Job.{Job as Asked}
use Rattle.pm_host.specs.declared.stage.Stage.{Stage}
use Rattle.pm_host.specs.FaultWords.{host_fault_number}
use Rattle.pm_host.specs.Image.{held}
use Rattle.pm_host.specs.Summary.{step_of}
use Rattle.pm_host.specs.Transcript.{Entry}
use Rattle.pm_limits.specs.Guard.{Guarded, limits_at}
use Rattle.pm_rail.specs.Course.{course_of}
use Rattle.pm_rail.specs.Registers.{nothing}
use Rattle.pm_course.specs.declared.course_end.CourseNext.{CourseNext}
use Rattle.pm_course.specs.declared.course_end.CourseNext.TheVariants.{Job, Ended}
use Rattle.pm_course.specs.declared.course_end.Refusal.{Refusal}
use Rattle.pm_course.specs.declared.frame_course.FrameCourse.{FrameCourse}
use Rattle.pm_course.specs.declared.frames.Sending.{Sending}
use Rattle.pm_course.specs.declared.frames.Sending.TheVariants.{Write, Request}
use Rattle.pm_course.specs.Accept.{Accepts}
use Rattle.pm_course.specs.FrameCourse.{going_on, wanting}
use Rattle.pm_course.specs.Frames.{GoesOn, HandsOut, Hears, SaysBy}
use Rattle.pm_course.specs.Hosted.{IsSentAt}
use Rattle.pm_course.specs.Wishes.{no_voltages}
use Rattle.pm_memory.specs.declared.course_image.CourseImage.{CourseImage}
use Rattle.pm_memory.specs.declared.guard_image.GuardImage.{GuardImage}
use Rattle.pm_memory.specs.declared.sending_image.SendingImage.{SendingImage}
use Rattle.pm_memory.specs.declared.wanted_image.WantedImage.{WantedImage}
use Rattle.pm_memory.specs.CourseImage.{course_image, course_in, job_code, job_kind, job_word}
use Rattle.pm_memory.specs.Guard.{guard_of, limits_kept, registers_held}
use Rattle.pm_memory.specs.Memory.{IsMemory}
use Rattle.pm_memory.specs.Sending.{request_kind, write_kind, IsNothing}
use Rattle.pm_memory.specs.Wanted.{wanted_meant}
use Rattle.pm_memory.specs.declared.course.CourseJobImage.{CourseJobImage}
use Rattle.pm_memory.specs.declared.host_step.HostStep.{HostStep}
use Rattle.pm_memory.specs.Host.{fault_in, host_step, refused_step}
use Rattle.pm_memory.specs.Numbers.{accepted, course_ended, no_course, no_host, other_frame}

-- a course is made: H4 for an output that no device has, then H5 for a code that is no voltage
abbrev pub begun_number : ℕ → ℕ
begun_number output = if nat_lt output 8 then accepted else host_fault_number UnknownOutput

abbrev pub voltage_register : ℕ → Option Reg
voltage_register code = option_and_then (λ register. rule (is_voltage register) register) (register_of code)

abbrev pub code_number : ℕ → ℕ
code_number code = if is_some (voltage_register code) then accepted else host_fault_number BadWord

abbrev pub voltage_number : ℕ → ℕ → ℕ
voltage_number output code = if nat_lt output 8 then code_number code else host_fault_number UnknownOutput

-- to words
abbrev pub words_course : ℕ → WantedImage → ℕ → FrameCourse
words_course output wanted tries = going_on (course_of output (wanted_meant wanted) tries) no_voltages

-- to a voltage of one register
abbrev pub voltage_begun : CourseImage → ℕ → ℕ → ℤ → ℕ → CourseImage
voltage_begun was output code x tries = option_map_or
    (λ register. course_image (wanting (going_on (course_of output nothing tries) no_voltages) register x)) (voltage_register code) was

-- a voltage more is wanted, by a course to words or voltages
abbrev pub is_wanting : Option FrameCourse → Bool
is_wanting course = option_map_or (λ c. is_some c.course.survey.plan) course false

abbrev pub want_number : Option FrameCourse → ℕ → ℕ
want_number course code = if is_wanting course then code_number code else no_course

abbrev pub wanted_by : CourseImage → ℤ → Option FrameCourse → Option Reg → CourseImage
wanted_by was x (Some c) (Some register) = course_image (wanting c register x)
wanted_by was x (Some c) None = was
wanted_by was x None register = was

abbrev pub wanted_more : CourseImage → ℕ → ℤ → CourseImage
wanted_more was code x = wanted_by was x (course_in was) (voltage_register code)

-- the memory holds a course
abbrev pub kept_number : Option FrameCourse → ℕ
kept_number course = if is_some course then accepted else no_course

-- a job, or none
abbrev pub job_image : Option Asked → CourseJobImage
job_image job = record { kind = job_kind job; code = job_code job; word = job_word job }

abbrev pub job_answer : Option FrameCourse → CourseJobImage → CourseJobImage
job_answer course was = option_map_or (λ c. job_image c.course.survey.asked) course was

-- the guard of memory whose open job is at this stage
abbrev pub guard_at : GuardImage → Option Stage → Guarded
guard_at i stage = record { host = held stage i.host.state; limits = limits_kept i; registers = registers_held i.registers }

-- Why the memories of a host and a course are refused: one holds no host, the other no course, or the course is of an output that the
-- host doesn't have (H4). Nothing changes then.
abbrev pub course_output_fault : Guarded → FrameCourse → Option ℕ
course_output_fault g c = if nat_lt c.course.survey.output g.host.setup.outputs then None else Some (host_fault_number UnknownOutput)

abbrev pub memory_fault : Option Guarded → Option FrameCourse → Option ℕ
memory_fault None course = Some no_host
memory_fault (Some g) None = Some no_course
memory_fault (Some g) (Some c) = course_output_fault g c

-- otherwise they mean a host with its limits and a course of one of its outputs
pub record AreBoth (host : GuardImage) (course : CourseImage) (g : Guarded) (c : FrameCourse) : Type 0 where
  pub guard : guard_of host ≡ Some g
  pub held : course_in course ≡ Some c
  pub there : course_output_fault g c ≡ None

-- what the memory of a host means after a call; it stays a function of what it means
pub record IsAfter (old new : GuardImage) (g : Guarded) : Type 0 where
  pub guard : guard_of new ≡ Some g
  pub written : IsMemory old → IsMemory new

-- what a course would begin now
abbrev pub next_number : CourseNext → ℕ
next_number (Job job) = accepted
next_number (Ended over) = course_ended

abbrev pub next_image : CourseNext → CourseJobImage
next_image (Job job) = job_image (Some job)
next_image (Ended over) = job_image None

pub data WouldBegin (host : GuardImage) (course : CourseImage) (was : CourseJobImage) : ℕ → CourseJobImage → Type 0 where
  refused_next : (number : ℕ) → memory_fault (guard_of host) (course_in course) ≡ Some number → WouldBegin host course was number was
  said : (g : Guarded) (c is : FrameCourse) (result : CourseNext) → AreBoth host course g c → SaysBy g c result is
      → WouldBegin host course was (next_number result) (next_image result)

-- A held word is taken, or why it isn't.
abbrev pub accept_number : Result (Unit {0}) Refusal → ℕ
accept_number (Ok done) = accepted
accept_number (Err refusal) = refusal.number

abbrev pub accept_image : CourseImage → Result (Unit {0}) Refusal → FrameCourse → CourseImage
accept_image was (Ok done) is = course_image is
accept_image was (Err refusal) is = was

pub data AcceptsIn (guard : Option Guarded) (was : CourseImage) (tolerance : ℕ) : ℕ → CourseImage → Type 0 where
  no_host_to : guard ≡ None → AcceptsIn guard was tolerance no_host was
  no_course_to : (g : Guarded) → guard ≡ Some g → course_in was ≡ None → AcceptsIn guard was tolerance no_course was
  no_output : (g : Guarded) (c : FrameCourse) → guard ≡ Some g → course_in was ≡ Some c
      → nat_lt c.course.survey.output g.host.setup.outputs ≡ false
      → AcceptsIn guard was tolerance (host_fault_number UnknownOutput) was
  judged : (g : Guarded) (c is : FrameCourse) (answer : Result (Unit {0}) Refusal) (number : ℕ) (new : CourseImage) → guard ≡ Some g
      → course_in was ≡ Some c → nat_lt c.course.survey.output g.host.setup.outputs ≡ true
      → Accepts (limits_at g c.course.survey.output) g.host c tolerance answer is → number ≡ accept_number answer
      → new ≡ accept_image was answer is → AcceptsIn guard was tolerance number new

-- the frame that numbers are
abbrev pub IsFrameIn : Option Sending → SendingImage → Type 0
IsFrameIn None i = IsNothing i
IsFrameIn (Some (Write frame)) i = (i.kind ≡ write_kind) × (i.answer ≡ 0) × (take i.length i.bytes ≡ frame.items)
IsFrameIn (Some (Request frame bytes)) i = (i.kind ≡ request_kind) × (i.answer ≡ bytes) × (take i.length i.bytes ≡ frame.items)

-- the frame of a stage, or none, by the numbers that it is
pub record IsPut (g : Guarded) (at : Option Stage) (i : SendingImage) : Type 0 where
  pub sent : Option Sending
  pub of_stage : IsSentAt g at sent
  pub frame : IsFrameIn sent i

-- what is answered of a frame, or of none
abbrev pub sent_number : Option Sending → ℕ
sent_number sent = if is_some sent then accepted else course_ended

abbrev pub stage_number : Option Stage → ℕ
stage_number at = if is_some at then accepted else course_ended

-- Memory is refused; or a course hands out its next frame, by what the memories mean.
pub data HandsOutIn (old : GuardImage) (was : CourseImage) : ℕ → GuardImage → CourseImage → SendingImage → Type 0 where
  refused_frame : (number : ℕ) (sending : SendingImage) → memory_fault (guard_of old) (course_in was) ≡ Some number → IsNothing sending
      → HandsOutIn old was number old was sending
  hands_out : (g next : Guarded) (c is : FrameCourse) (sent : Option Sending) (new : GuardImage) (sending : SendingImage)
      → AreBoth old was g c → HandsOut g c sent next is → IsFrameIn sent sending → IsAfter old new next
      → HandsOutIn old was (sent_number sent) new (course_image is) sending

-- what a call answers that tells a host and a course what became of a frame: how the job stands then
abbrev pub heard_step : Guarded → Entry → HostStep
heard_step g entry = host_step (fault_in g.host entry) (step_of g.host entry)

-- Memory is refused, or no frame of this kind is being sent, and nothing changes; or the host and the course hear it.
pub data HearsIn (old : GuardImage) (was : CourseImage) (entry : Entry) : HostStep → GuardImage → CourseImage → Type 0 where
  refused_told : (number : ℕ) → memory_fault (guard_of old) (course_in was) ≡ Some number
      → HearsIn old was entry (refused_step number) old was
  unasked : (g : Guarded) (c : FrameCourse) (fault : Untold) → AreBoth old was g c → Hears g c entry (Err fault) g c
      → HearsIn old was entry (refused_step other_frame) old was
  hears_it : (g next : Guarded) (c is : FrameCourse) (new : GuardImage) → AreBoth old was g c → Hears g c entry (Ok tt) next is
      → IsAfter old new next → HearsIn old was entry (heard_step g entry) new (course_image is)

-- It is refused so too; or the host and the course hear it, and then the course goes on, or waits before an order where it is to stop there.
pub data HearsOnIn (stops : Bool) (old : GuardImage) (was : CourseImage) (entry : Entry) :
    HostStep → GuardImage → CourseImage → SendingImage → Type 0 where
  refused_both : (number : ℕ) (sending : SendingImage) → memory_fault (guard_of old) (course_in was) ≡ Some number → IsNothing sending
      → HearsOnIn stops old was entry (refused_step number) old was sending
  unasked_both : (g : Guarded) (c : FrameCourse) (fault : Untold) (sending : SendingImage) → AreBoth old was g c
      → Hears g c entry (Err fault) g c → IsNothing sending → HearsOnIn stops old was entry (refused_step other_frame) old was sending
  hears_on : (g between next : Guarded) (c heard is : FrameCourse) (sent : Option Sending) (new : GuardImage) (sending : SendingImage)
      → AreBoth old was g c → Hears g c entry (Ok tt) between heard → GoesOn stops between heard sent next is → IsFrameIn sent sending
      → IsAfter old new next → HearsOnIn stops old was entry (heard_step g entry) new (course_image is) sending
