-- What the calls of a sequence answer and write, by the relations of pm_sequence: `HandsOut`, `Hears` and `heard_in`. This project's own choice.
use Rattle.std.specs.Prelude.{◌≡◌, ℕ, Bool, true, false, ◌+◌, ◌-◌, ◌/◌, ◌%◌, ◌&&◌, not, nat_lt, ◌==◌, if◌then◌else◌, List, length}
use Rattle.std.specs.Prelude.{slice_get, slice_set, take, Option, Some, None, is_some, Result, Ok, Err}
use Rattle.std.specs.Option.{option_map_or, option_or}
use Rattle.std.specs.Result.{result_err}
use Rattle.pm_host.specs.declared.fault.Untold.{Untold}
use Rattle.pm_host.specs.declared.stage.Stage.{Stage}
use Rattle.pm_host.specs.Transcript.{Entry, Got}
use Rattle.pm_limits.specs.Guard.{Guarded}
use Rattle.pm_course.specs.declared.frames.Sending.{Sending}
use Rattle.pm_course.specs.Hosted.{IsSentAt}
use Rattle.pm_delivery.specs.declared.delivery.Delivery.{Delivery}
use Rattle.pm_delivery.specs.Questions.{question_size}
use Rattle.pm_stairs.specs.declared.step.WordStep.{WordStep}
use Rattle.pm_stairs.specs.declared.stairs.Stairs.{Stairs}
use Rattle.pm_stairs.specs.OpenCourse.{is_job_at}
use Rattle.pm_sequence.specs.declared.sequence.Act.{Act}
use Rattle.pm_sequence.specs.declared.sequence.Act.TheVariants as act
use Rattle.pm_sequence.specs.declared.sequence.End.{End}
use Rattle.pm_sequence.specs.declared.sequence.End.TheVariants as end
use Rattle.pm_sequence.specs.declared.sequence.Phase.{Phase}
use Rattle.pm_sequence.specs.declared.sequence.Phase.TheVariants as phase
use Rattle.pm_sequence.specs.declared.sequence.Rules.{Rules}
use Rattle.pm_sequence.specs.declared.sequence.Sequence.{Sequence}
use Rattle.pm_sequence.specs.declared.step.Step.{Step}
use Rattle.pm_sequence.specs.Frames.{heard_in, request_of, HandsOut, Hears}
use Rattle.pm_sequence.specs.Sequence.{new_sequence}
use Rattle.pm_memory.specs.declared.delivery_image.DeliveryImage.{DeliveryImage}
use Rattle.pm_memory.specs.declared.guard_image.GuardImage.{GuardImage}
use Rattle.pm_memory.specs.declared.sending_image.SendingImage.{SendingImage}
use Rattle.pm_memory.specs.declared.sequence_image.SaidImage.{SaidImage}
use Rattle.pm_memory.specs.declared.sequence_image.SequenceImage.{SequenceImage}
use Rattle.pm_memory.specs.DeliveryImage.{delivery_image}
use Rattle.pm_memory.specs.Guard.{guard_of}
use Rattle.pm_memory.specs.Heard.{heard_image}
use Rattle.pm_memory.specs.Sending.{request_kind, IsNothing}
use Rattle.pm_memory.specs.SequenceImage.{sequence_image, sequence_in}
use Rattle.pm_memory.specs.declared.host_step.HostStep.{HostStep}
use Rattle.pm_memory.specs.declared.sequence_step.SequenceRecordImage.{SequenceRecordImage}
use Rattle.pm_memory.specs.declared.sequence_step.SequenceStepImage.{SequenceStepImage}
use Rattle.pm_memory.specs.Course.{heard_step, IsAfter, IsFrameIn}
use Rattle.pm_memory.specs.Host.{refused_step}
use Rattle.pm_memory.specs.Numbers.{accepted, no_host, no_room, no_sequence, no_step, other_frame}
use Rattle.pm_memory.specs.Paged.{IsPagedSending}
use Rattle.pm_memory.specs.SequenceSaid.{nothing_said, number_said, rail_said, step_said, IsSaidLast}
use Rattle.pm_memory.specs.SequenceStep.{back_image, step_in}

-- the rules that a number says: 1 a way back is kept, 2 a restart ends the list, 4 a step that stops is left, 8 each order is told before
-- it begins, or a sum
abbrev pub rules_said : ℕ → Rules
rules_said n = record {
  keeps_back = n % 2 == 1;
  ends_at_restart = n / 2 % 2 == 1;
  leaves = n / 4 % 2 == 1;
  asks = n / 8 % 2 == 1;
}

-- no step has begun
abbrev pub sequence_begun : ℕ → ℕ → SequenceImage
sequence_begun tries rules = sequence_image (new_sequence tries (rules_said rules)) nothing_said

-- ---- What is asked ----

-- the step at a place of a list, none after its end, or what is wrong with it; and the newest one that has begun
abbrev pub one_step : Result Step ℕ → Result (Option Step) ℕ
one_step (Ok step) = Ok (Some step)
one_step (Err number) = Err number

abbrev pub step_read : Option SequenceStepImage → Result (Option Step) ℕ
step_read None = Ok None
step_read (Some i) = one_step (step_in i)

abbrev pub step_at : List SequenceStepImage → ℕ → Result (Option Step) ℕ
step_at steps place = step_read (slice_get steps place)

abbrev pub step_under : List SequenceStepImage → ℕ → Result (Option Step) ℕ
step_under steps begun = if nat_lt 0 begun then step_at steps (begun - 1) else Ok None

-- there is room for the way back, where one is kept
abbrev pub lacks_room : Sequence → ℕ → ℕ → Bool
lacks_room q steps room = q.list.keeps_back && nat_lt room steps

abbrev pub list_fault : Sequence → ℕ → ℕ → Option ℕ
list_fault q steps room = if nat_lt 65535 steps then Some no_step else (if lacks_room q steps room then Some no_room else None)

abbrev pub steps_fault : List SequenceStepImage → ℕ → Option ℕ
steps_fault steps begun = option_or (result_err (step_under steps begun)) (result_err (step_at steps begun))

-- Why a call is refused: the memory holds no host, or no sequence; the list has too many steps, or there is less room; or the newest step
-- that has begun, or the first one that hasn't, is wrong.
abbrev pub asked_fault : Option Guarded → Option Sequence → List SequenceStepImage → ℕ → Option ℕ
asked_fault None q steps room = Some no_host
asked_fault (Some g) None steps room = Some no_sequence
asked_fault (Some g) (Some q) steps room = option_or (list_fault q (length steps) room) (steps_fault steps q.list.begun)

-- otherwise these are asked
pub record AreAsked (host : GuardImage) (image : SequenceImage) (steps : List SequenceStepImage) (room : ℕ) (g : Guarded) (q : Sequence)
    (under ahead : Option Step) : Type 0 where
  pub guard : guard_of host ≡ Some g
  pub held : sequence_in image ≡ Some q
  pub list : list_fault q (length steps) room ≡ None
  pub under_at : step_under steps q.list.begun ≡ Ok under
  pub ahead_at : step_at steps q.list.begun ≡ Ok ahead

-- ---- What is handed out ----

-- how many bytes a whole answer has to what is asked beside the host's jobs, the read address first
abbrev pub whole_answer_size : Act → ℕ
whole_answer_size (act.Ask question) = question_size question + 3
whole_answer_size act.Probe = 4
whole_answer_size said = 0

-- a request is to be sent, to which a whole answer has so many bytes; or nothing
abbrev pub IsRequest : Option (List ℕ) → ℕ → SendingImage → Type 0
IsRequest None whole i = IsNothing i
IsRequest (Some bytes) whole i = (i.kind ≡ request_kind) × (i.answer ≡ whole) × (take i.length i.bytes ≡ bytes)

-- the frame of a job, or the request of what is asked beside the jobs, or nothing
abbrev pub IsFrameNext : Guarded → Sequence → Option Sending → Act → SendingImage → Type 0
IsFrameNext g q (Some sent) said i = IsFrameIn (Some sent) i
IsFrameNext g q None said i = IsRequest (request_of g.host.setup.addr q.look.delivery.output said) (whole_answer_size said) i

pub record IsPutNext (g : Guarded) (q : Sequence) (at : Option Stage) (said : Act) (i : SendingImage) : Type 0 where
  pub sent : Option Sending
  pub of_stage : IsSentAt g at sent
  pub frame : IsFrameNext g q sent said i

-- what is answered of a frame, or of what is said
abbrev pub number_next : Option Stage → Act → ℕ
number_next at said = if is_some at then accepted else number_said said

abbrev pub number_sent : Option Sending → Act → ℕ
number_sent sent said = if is_some sent then accepted else number_said said

-- ---- What is kept ----

abbrev pub back_said : Act → Option WordStep
back_said (act.Job job) = None
back_said (act.Begins job back) = Some back
back_said (act.Passes back) = Some back
back_said (act.Order job) = None
back_said (act.Ask question) = None
back_said act.Probe = None
back_said act.Pause = None
back_said (act.Wait milliseconds) = None
back_said act.Again = None
back_said (act.NoWayBack fault) = None
back_said (act.Does found) = None
back_said (act.Leaves why) = None
back_said (act.Ended why) = None

-- what was heard of a rail is kept where that ends its look, or the goal is beyond a limit
abbrev pub is_kept_at : End → Bool
is_kept_at end.Reached = false
is_kept_at (end.Left steps) = false
is_kept_at (end.Stopped why) = false
is_kept_at (end.Beyond fault) = true
is_kept_at end.Unjudged = false
is_kept_at (end.Does found) = true

abbrev pub is_look_said : Act → Bool
is_look_said (act.Job job) = false
is_look_said (act.Begins job back) = false
is_look_said (act.Passes back) = false
is_look_said (act.Order job) = false
is_look_said (act.Ask question) = false
is_look_said act.Probe = false
is_look_said act.Pause = false
is_look_said (act.Wait milliseconds) = false
is_look_said act.Again = false
is_look_said (act.NoWayBack fault) = false
is_look_said (act.Does found) = true
is_look_said (act.Leaves why) = is_kept_at why
is_look_said (act.Ended why) = is_kept_at why

-- one record is another now, where there is room
abbrev pub record_with_back : SequenceStepImage → SequenceRecordImage → SequenceRecordImage
record_with_back back r = record r { back = back }

abbrev pub record_with_look : DeliveryImage → SequenceRecordImage → SequenceRecordImage
record_with_look look r = record r { look = look }

abbrev pub put_at : List SequenceRecordImage → ℕ → (SequenceRecordImage → SequenceRecordImage) → List SequenceRecordImage
put_at records at change = option_map_or (λ r. slice_set records at (change r)) (slice_get records at) records

abbrev pub with_back : List SequenceRecordImage → ℕ → SequenceStepImage → List SequenceRecordImage
with_back records at back = put_at records at (record_with_back back)

abbrev pub records_with_look : List SequenceRecordImage → ℕ → DeliveryImage → List SequenceRecordImage
records_with_look records at look = put_at records at (record_with_look look)

abbrev pub backs_after : Sequence → Sequence → Option WordStep → List SequenceRecordImage → List SequenceRecordImage
backs_after was is None records = records
backs_after was is (Some back) records =
    if was.list.keeps_back then with_back records was.list.begun (back_image is.list.under_host back) else records

abbrev pub looks_after : Sequence → Act → List SequenceRecordImage → List SequenceRecordImage
looks_after is said records =
    if is_look_said said then records_with_look records (step_said is said) (delivery_image is.look.delivery) else records

abbrev pub records_after : Sequence → Sequence → Act → List SequenceRecordImage → List SequenceRecordImage
records_after was is said records = looks_after is said (backs_after was is (back_said said) records)

-- ---- The calls ----

-- A call is refused, and nothing changes; or a sequence hands out what is next, by what the memories mean.
pub data NextIn (old : GuardImage) (was : SequenceImage) (steps : List SequenceStepImage) (records : List SequenceRecordImage) :
    ℕ → GuardImage → SequenceImage → List SequenceRecordImage → SendingImage → Type 0 where
  refused_next : (number : ℕ) (sending : SendingImage) → asked_fault (guard_of old) (sequence_in was) steps (length records) ≡ Some number
      → IsNothing sending → NextIn old was steps records number old was records sending
  hands_next : (g next : Guarded) (q is : Sequence) (under ahead : Option Step) (sent : Option Sending) (said : Act) (new : GuardImage)
      (told : SaidImage) (sending : SendingImage) → AreAsked old was steps (length records) g q under ahead
      → HandsOut g under ahead q sent said next is → IsFrameNext next is sent said sending → IsSaidLast new is said was.said told
      → IsAfter old new next
      → NextIn old was steps records (number_sent sent said) new (sequence_image is told) (records_after q is said records) sending

-- why a call is refused that says what became of a frame
abbrev pub both_fault : Option Guarded → Option Sequence → Option ℕ
both_fault None q = Some no_host
both_fault (Some g) None = Some no_sequence
both_fault (Some g) (Some q) = None

pub record AreBoth (host : GuardImage) (image : SequenceImage) (g : Guarded) (q : Sequence) : Type 0 where
  pub guard : guard_of host ≡ Some g
  pub held : sequence_in image ≡ Some q

-- Memory is refused, or no frame of this kind is being sent, and nothing changes; or the host and the sequence hear it, of whose memory no more is
-- written than that changes.
pub data HearsIn (old : GuardImage) (was : SequenceImage) (entry : Entry) : HostStep → GuardImage → SequenceImage → Type 0 where
  refused_told : (number : ℕ) → both_fault (guard_of old) (sequence_in was) ≡ Some number
      → HearsIn old was entry (refused_step number) old was
  unasked : (g : Guarded) (q is : Sequence) (fault : Untold) → AreBoth old was g q → Hears g q entry (Err fault) g is
      → HearsIn old was entry (refused_step other_frame) old was
  hears_it : (g next : Guarded) (q is : Sequence) (new : GuardImage) → AreBoth old was g q → Hears g q entry (Ok tt) next is
      → IsAfter old new next → HearsIn old was entry (heard_step g entry) new (heard_image was is)

-- what is read is of a look: one is under way, and no job of the list is open
abbrev pub is_open : Stairs → Option Stage → Bool
is_open stairs None = false
is_open stairs (Some stage) = is_job_at stairs stage

abbrev pub is_look_at : Phase → Sequence → Option Stage → Bool
is_look_at phase.Steps q stage = false
is_look_at phase.Before q stage = not (is_open q.list.stairs stage)
is_look_at phase.After q stage = not (is_open q.list.stairs stage)

abbrev pub is_look : Sequence → Option Stage → Bool
is_look q stage = is_look_at q.phase q stage

-- What came back is of a look, which hears it; otherwise of a job.
pub data ReadIn (old : GuardImage) (was : SequenceImage) (bytes : List ℕ) : HostStep → GuardImage → SequenceImage → Type 0 where
  of_a_look : (g : Guarded) (q : Sequence) → AreBoth old was g q → is_look q g.host.stage ≡ true
      → ReadIn old was bytes (refused_step accepted) old (sequence_image (heard_in g q bytes) was.said)
  of_a_job : (g : Guarded) (q : Sequence) (step : HostStep) (new : GuardImage) (is : SequenceImage) → AreBoth old was g q
      → is_look q g.host.stage ≡ false → HearsIn old was (Got bytes) step new is → ReadIn old was bytes step new is
  refused_read : (number : ℕ) → both_fault (guard_of old) (sequence_in was) ≡ Some number
      → ReadIn old was bytes (refused_step number) old was
