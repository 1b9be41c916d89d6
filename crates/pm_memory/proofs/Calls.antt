-- What a call for a course or a list hands out, and what a host hears.
use Rattle.std.specs.Result.{result_err}
use Rattle.std.specs.Option.{option_map_or, option_or}
use Rattle.std.specs.Prelude.{take, option_map, is_none, is_some, length, Result}
use Rattle.std.proofs.Common.{◌≡◌, true, false, Some, None, refl, ◌∙◌, ℕ, Bool, Option, Ok, ap, subst, sym, List, Err}
use Rattle.pm_frame.specs.{Fault.whole_answer, Layout.is_read_message, declared.message.Message.Message}
use Rattle.pm_host.specs.{Refusals.may_come, Transcript.Entry, declared.fault.Untold.TheVariants.NothingSent, declared.fault.Untold.Untold}
use Rattle.pm_host.specs.{declared.host.Step.Step, declared.host.Told.Told as HostTold, declared.job.Job.Job, declared.job.JobEnd.JobEnd}
use Rattle.pm_host.specs.{declared.stage.Stage.Stage, declared.state.State.State}
use Rattle.pm_host.specs.Image.{held, host_of}
use Rattle.pm_host.specs.Summary.{Summary, host_next, step_of, stage_message}
use Rattle.pm_host.specs.Told.{entry_told, is_awaited}
use Rattle.pm_host.specs.declared.host.Step.TheVariants.{Next, Ended}
use Rattle.pm_host.specs.declared.host.Told.TheVariants.{Finished, Got}
use Rattle.pm_host.specs.declared.job.Job.TheVariants.{Order, OrderMicro, Check, Learn, Send}
use Rattle.pm_host.specs.declared.job.JobEnd.TheVariants.{Done, Differs, Unknown, Learned}
use Rattle.pm_limits.specs.Guard.{Guarded}
use Rattle.pm_rail.specs.{Course.told_of, Survey.ended, declared.course.Differing.Differing, declared.survey.Survey.Survey}
use Rattle.pm_course.specs.{Lemmas.Awaited.comes-awaited, declared.frame_course.FrameCourse.FrameCourse, declared.frames.Sending.Sending}
use Rattle.pm_course.specs.{declared.hosted.Heard.Heard}
use Rattle.pm_course.specs.Frames.{IsSendingOf, Hears, heard as frames_heard}
use Rattle.pm_course.specs.Heard.{ended_by, heard_by, is_job_of, mode_told, noting, stepped}
use Rattle.pm_course.specs.Hosted.{IsSentAt, TellsBoth}
use Rattle.pm_course.specs.declared.frames.Sending.TheVariants.{Write, Request}
use Rattle.pm_stairs.specs.{OpenCourse.course_open, Sequence.heard_with}
use Rattle.pm_sequence.specs.{declared.sequence.Act.Act, declared.sequence.Sequence.Sequence, declared.step.Step.Step as ListStep}
use Rattle.pm_sequence.specs.Frames.{alone, course, heard as hears_course, list_heard, nothing, shows_restart, shows_restart_at}
use Rattle.pm_sequence.specs.Frames.{unheard as unheard_by, Hears as FramesHears, HearsAt}
use Rattle.pm_memory.specs.{Guard.guard_of, Hosted.guard_in, Memory.IsMemory, Sending.IsSending, declared.guard_image.GuardImage.GuardImage}
use Rattle.pm_memory.specs.{declared.host_step.HostStep.HostStep, declared.sending_image.SendingImage.SendingImage}
use Rattle.pm_memory.specs.{declared.sequence_image.SequenceImage.SequenceImage, declared.sequence_step.SequenceStepImage.SequenceStepImage}
use Rattle.pm_memory.specs.Course.{IsFrameIn, sent_number, stage_number}
use Rattle.pm_memory.specs.Host.{fault_in, host_step, TellsHost, told_fault}
use Rattle.pm_memory.specs.Sequence.{asked_fault, both_fault, list_fault, number_next, number_sent, one_step, steps_fault, AreBoth}
use Rattle.pm_memory.specs.SequenceImage.{sequence_in, sequence_meant}

-- What a call hands out, and what a host and its course hear.

-- What became of a frame is told where it is of the frame's kind.

-- what is of the kind of the open stage's frame may come
pub awaited : (stage : Stage) (state : State) (told : HostTold) → is_awaited stage told ≡ true
    → may_come (held (Some stage) state) (entry_told told) ≡ true
awaited stage state (Finished acked) is = is
awaited stage state (Got bytes) is = is

-- the host takes it, and answers how the job stands
pub tells : (old new : GuardImage) (s : Summary) (e : Entry) (result : HostStep) → host_of old.host ≡ Some s
    → may_come s e ≡ true → host_of new.host ≡ Some (host_next s e) → result ≡ host_step (fault_in s e) (step_of s e)
    → new.limits ≡ old.limits → new.registers ≡ old.registers → (IsMemory old → IsMemory new) → TellsHost old e result new
tells old new s e result found may became answered limits registers written = record {
  answer = rw (found, may) answered;
  told = λ is. rw found became;
  limits = limits;
  registers = registers;
  written = written;
  refused = λ is. let never = rw found at is in cc;
}

-- what is of the other kind may not come, and nothing may where no job is open
pub not_awaited : (stage : Stage) (state : State) (told : HostTold) → is_awaited stage told ≡ false
    → may_come (held (Some stage) state) (entry_told told) ≡ false
not_awaited stage state (Finished acked) is = is
not_awaited stage state (Got bytes) is = is

pub idle : (state : State) (told : HostTold) → may_come (held None state) (entry_told told) ≡ false
idle state (Finished acked) = refl
idle state (Got bytes) = refl

-- The frame of a stage, as a course hands it out and as numbers.

pub record Sends (addr : ℕ) (message : Message) (i : SendingImage) : Type 0 where
  pub sending : Sending
  pub is_of : IsSendingOf addr message sending
  pub kept : IsFrameIn (Some sending) i

pub sends : (addr : ℕ) (message : Message) (i : SendingImage) → IsSending addr message i → Sends addr message i
sends addr message i is = by (is_read_message message) refl where
  by : (b : Bool) → is_read_message message ≡ b → Sends addr message i
  by true reads = record {
    sending = Request (record { items = take i.length i.bytes }) (whole_answer message);
    is_of = (reads, is.frame.request reads, refl);
    kept = (is.kind ∙ rw reads refl, is.answer ∙ rw reads refl, refl);
  }
  by false writes = record {
    sending = Write (record { items = take i.length i.bytes });
    is_of = (writes, is.frame.write writes);
    kept = (is.kind ∙ rw writes refl, is.answer ∙ rw writes refl, refl);
  }

-- a frame is answered where there is a stage, and none where there is none
pub numbered : (g : Guarded) (at : Option Stage) (sent : Option Sending) → IsSentAt g at sent → stage_number at ≡ sent_number sent
numbered g None sent is = rw is refl
numbered g (Some stage) None is = absurd is
numbered g (Some stage) (Some sending) is = refl

-- What a host and a course hear of the frame of a stage.

pub hears-by : (old new : Guarded) (was is : FrameCourse) (stage : Stage) (told : HostTold) (result : Heard) → old.host.stage ≡ Some stage →
    is_awaited stage told ≡ true → TellsBoth old was stage (entry_told told) result new is → Hears old was (entry_told told) (Ok tt) new is
hears-by old new was is stage told result opened waits tells =
    subst (λ (after : FrameCourse). Hears old was (entry_told told) (Ok tt) new after) (sym tells.heard)
    (frames_heard stage new opened (comes-awaited old.host stage told opened ∙ waits) tells.after tells.limits tells.registers)

-- which fault the answer had
pub fault-at : (s : Summary) (stage : Stage) (entry : Entry) → s.stage ≡ Some stage →
    told_fault s.setup.addr (stage_message stage) entry ≡ fault_in s entry
fault-at s stage entry opened =
    sym (ap (λ (at : Option Stage). option_map_or (λ message. told_fault s.setup.addr message entry) (option_map stage_message at) 0) opened)

-- a course stays one of its output
survey-stays : (v : Survey) (job : Option Job) (end : JobEnd) → (ended v job end).output ≡ v.output
survey-stays v None end = refl
survey-stays v (Some (Order cell word)) end = refl
survey-stays v (Some (OrderMicro cell x)) end = refl
survey-stays v (Some (Send sent)) end = refl
survey-stays v (Some (Learn output)) Learned = refl
survey-stays v (Some (Learn output)) Done = refl
survey-stays v (Some (Learn output)) (Differs word) = refl
survey-stays v (Some (Learn output)) Unknown = refl
survey-stays v (Some (Check cell)) Done = refl
survey-stays v (Some (Check cell)) Learned = refl
survey-stays v (Some (Check cell)) (Differs word) = refl
survey-stays v (Some (Check cell)) Unknown = refl

ended-stays : (c : FrameCourse) (mode : Option ℕ) (twice : Option Differing) →
    (ended_by c mode twice).course.survey.output ≡ c.course.survey.output
ended-stays c (Some mode) twice = refl
ended-stays c None (Some differs) = refl
ended-stays c None None = refl

noting-stays : (c : FrameCourse) (addr : ℕ) (stage : Stage) (entry : Entry) (surprised : Bool) →
    (noting c addr stage entry surprised).course.survey.output ≡ c.course.survey.output
noting-stays c addr stage entry true = refl
noting-stays c addr stage entry false = refl

stepped-stays : (c : FrameCourse) (addr : ℕ) (stage : Stage) (entry : Entry) (step : Step) →
    (stepped c addr stage entry step).course.survey.output ≡ c.course.survey.output
stepped-stays c addr stage entry Next = refl
stepped-stays c addr stage entry (Ended end) =
    ended-stays (record c { course = told_of c.course end }) (mode_told addr stage entry end) (told_of c.course end).twice
    ∙ survey-stays c.course.survey c.course.survey.asked end

pub output-stays : (c : FrameCourse) (addr : ℕ) (stage : Stage) (entry : Entry) (surprised : Bool) (step : Step) →
    (heard_by c addr stage entry surprised step).course.survey.output ≡ c.course.survey.output
output-stays c addr stage entry surprised step = by (is_job_of c.course.survey.asked stage) refl where
  by : (b : Bool) → is_job_of c.course.survey.asked stage ≡ b →
      (heard_by c addr stage entry surprised step).course.survey.output ≡ c.course.survey.output
  by true is = rw is (stepped-stays (noting c addr stage entry surprised) addr stage entry step ∙ noting-stays c addr stage entry surprised)
  by false is = rw is refl

-- What a sequence in memory hands out and hears.

pub calls_numbered : (g : Guarded) (at : Option Stage) (sent : Option Sending) (said : Act) → IsSentAt g at sent
    → number_next at said ≡ number_sent sent said
calls_numbered g None sent said is = rw is refl
calls_numbered g (Some stage) None said is = absurd is
calls_numbered g (Some stage) (Some sending) said is = refl

-- a call is refused by what is wrong with its memories
pub fault-both : (g : Option Guarded) (q : Option Sequence) (steps : List SequenceStepImage) (room number : ℕ) → both_fault g q ≡ Some number
    → asked_fault g q steps room ≡ Some number
fault-both None q steps room number is = is
fault-both (Some g) None steps room number is = is
fault-both (Some g) (Some q) steps room number is = cc

-- a call is refused by what is wrong with the newest step that has begun, or with the first one ahead
pub fault-steps : (host : GuardImage) (image : SequenceImage) (steps : List SequenceStepImage) (room number : ℕ)
    → AreBoth host image (guard_in host) (sequence_meant image) → list_fault (sequence_meant image) (length steps) room ≡ None
    → steps_fault steps (sequence_meant image).list.begun ≡ Some number
    → asked_fault (guard_of host) (sequence_in image) steps room ≡ Some number
fault-steps host image steps room number both list wrong = rw (both.guard, both.held, list) wrong

-- a step is wrong as what is read at its place
pub one-err : (r : Result ListStep ℕ) → result_err r ≡ result_err (one_step r)
one-err (Ok step) = refl
one-err (Err number) = refl

-- nothing is wrong with either
pub no-first : (a b : Option ℕ) → option_or a b ≡ None → a ≡ None
no-first None b none = refl
no-first (Some number) b none = cc

pub no-second : (a b : Option ℕ) → option_or a b ≡ None → b ≡ None
no-second None b none = none
no-second (Some number) b none = cc

-- what came back shows a restart, where it does of the stage at which the open job stands
pub restart-at : (c : FrameCourse) (g : Guarded) (at : Stage) (told : HostTold) → g.host.stage ≡ Some at →
    shows_restart_at c g.host at (entry_told told) ≡ shows_restart c g (entry_told told)
restart-at c g at told is = rw is refl

-- whether there is a course whose job was named last
pub none-open : (o : Option FrameCourse) → is_some o ≡ false → o ≡ None
none-open None is = refl
none-open (Some named) is = cc

pub some-open : (o : Option FrameCourse) → is_some o ≡ true → is_none o ≡ false
some-open None is = cc
some-open (Some named) is = refl

-- nothing is heard where no course hears it
pub record Unheard (g : Guarded) (q : Sequence) (entry : Entry) : Type 0 where
  pub is : Sequence
  pub fault : Untold
  pub hears : FramesHears g q entry (Err fault) g is

pub unheard : (g : Guarded) (q : Sequence) (entry : Entry) (fault : Untold) →
    ((course : FrameCourse) → Hears g course entry (Err fault) g course) → Unheard g q entry
unheard g q entry fault why = by (course_open q.list.stairs) refl where
  by : (o : Option FrameCourse) → course_open q.list.stairs ≡ o → Unheard g q entry
  by None shut = record { is = q; fault = NothingSent; hears = nothing shut }
  by (Some named) own = record { is = q; fault = fault; hears = unheard_by named fault own (why named) }

-- the host and the course whose job was named last hear what became of the frame of the stage at which the open job stands
pub record Told (g : Guarded) (q : Sequence) (entry : Entry) (step : Step) (next : Guarded) (is : Sequence) : Type 0 where
  pub step-is : step ≡ step_of g.host entry
  pub hears : FramesHears g q entry (Ok tt) next is

pub told-at : (g next : Guarded) (q is : Sequence) (at : Stage) (told : HostTold) (heard : Heard) → g.host.stage ≡ Some at →
    is_awaited at told ≡ true → is_none (course_open q.list.stairs) ≡ false → HearsAt g q at (entry_told told) heard next is →
    Told g q (entry_told told) heard.step next is
told-at g next q _ at told heard opened waits some (course named after own tells) = record {
  step-is = tells.step;
  hears = subst (λ (b : Bool). FramesHears g q (entry_told told) (Ok tt) next (list_heard q (entry_told told) (heard_with q.list after b)))
      (sym (restart-at named g at told opened)) (hears_course named after next own (hears-by g next named after at told heard opened waits tells));
}
told-at g next q _ at told heard opened waits some (alone none tells) = let wrong = rw none at some in cc
