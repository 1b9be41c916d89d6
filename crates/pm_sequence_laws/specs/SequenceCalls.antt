-- The calls that C makes of a list of steps are steps of a run, while each call finds the sequence's memory as the call before it left it.
-- Nothing is said of the host's memory, so that each call may be of another part. This project's own choice.
use Rattle.std.specs.Prelude.{◌≡◌, ◌≤◌, ℕ, suc, true, List, [], ◌++◌, length, Option, Some, None, Result, Ok, Err}
use Rattle.pm_host.specs.Transcript.{Entry}
use Rattle.pm_sequence.specs.declared.sequence.End.TheVariants as end
use Rattle.pm_sequence.specs.declared.sequence.Sequence.{Sequence}
use Rattle.pm_sequence.specs.declared.step.Step.{Step}
use Rattle.pm_sequence.specs.Frames.{heard_in}
use Rattle.pm_sequence_laws.specs.Runs.{Mark, NoneLeft, Places, Runs, marks_of, must, settled}
use Rattle.pm_memory.specs.declared.guard_image.GuardImage.{GuardImage}
use Rattle.pm_memory.specs.declared.sending_image.SendingImage.{SendingImage}
use Rattle.pm_memory.specs.declared.sequence_image.SequenceImage.{SequenceImage}
use Rattle.pm_memory.specs.Heard.{heard_image}
use Rattle.pm_memory.specs.SequenceImage.{sequence_image, sequence_in}
use Rattle.pm_memory.specs.declared.host_step.HostStep.{HostStep}
use Rattle.pm_memory.specs.declared.sequence_step.SequenceRecordImage.{SequenceRecordImage}
use Rattle.pm_memory.specs.declared.sequence_step.SequenceStepImage.{SequenceStepImage}
use Rattle.pm_memory.specs.Sequence.{HearsIn, NextIn, ReadIn, rules_said, sequence_begun, step_at}
use Rattle.pm_memory.specs.Sequence.{refused_next, hands_next, refused_told, unasked, hears_it, of_a_look, of_a_job, refused_read}

-- the step at a place of a list, none after its end, or where it is a wrong one
abbrev pub right_step : Result (Option Step) ℕ → Option Step
right_step (Ok step) = step
right_step (Err number) = None

abbrev pub places_of : List SequenceStepImage → Places
places_of steps place = right_step (step_at steps place)

-- ---- What a call writes reads as it was written. A refused call writes nothing. ----

abbrev pub IsReadNext : {old new : GuardImage} {was is : SequenceImage} {steps : List SequenceStepImage}
    {records after : List SequenceRecordImage} {number : ℕ} {sending : SendingImage} →
    NextIn old was steps records number new is after sending → Type 0
IsReadNext (refused_next number sending fault nothing) = Unit {0}
IsReadNext (hands_next g next q is under ahead sent said new told sending asked out frame tells after) =
    sequence_in (sequence_image is told) ≡ Some is

abbrev pub IsReadHeard : {old new : GuardImage} {was is : SequenceImage} {entry : Entry} {step : HostStep} →
    HearsIn old was entry step new is → Type 0
IsReadHeard (refused_told number fault) = Unit {0}
IsReadHeard (unasked g q is fault both hear) = Unit {0}
IsReadHeard {was = was} (hears_it g next q is new both hear after) = sequence_in (heard_image was is) ≡ Some is

abbrev pub IsReadBack : {old new : GuardImage} {was is : SequenceImage} {bytes : List ℕ} {step : HostStep} →
    ReadIn old was bytes step new is → Type 0
IsReadBack {was = was} {bytes = bytes} (of_a_look g q both look) =
    sequence_in (sequence_image (heard_in g q bytes) was.said) ≡ Some (heard_in g q bytes)
IsReadBack (of_a_job g q step new is both look hear) = IsReadHeard hear
IsReadBack (refused_read number fault) = Unit {0}

-- ---- The calls of a list, one after another. What happened is newest first. ----

-- what a call of pm_sequence_next tells
abbrev pub marks_next : {old new : GuardImage} {was is : SequenceImage} {steps : List SequenceStepImage}
    {records after : List SequenceRecordImage} {number : ℕ} {sending : SendingImage} →
    NextIn old was steps records number new is after sending → List Mark
marks_next (refused_next number sending fault nothing) = []
marks_next (hands_next g next q is under ahead sent said new told sending asked out frame tells after) = marks_of is.list.begun said

-- The memory is as pm_sequence_new leaves it (`begins`); or pm_sequence_next was called (`next`); or the sequence was told what became of a
-- frame (`hears`), or what came back (`reads`).
pub data RunsInMemory (steps : List SequenceStepImage) (tries rules : ℕ) : List Mark → SequenceImage → Type 0 where
  begins : RunsInMemory steps tries rules [] (sequence_begun tries rules)
  next : (marks : List Mark) (old new : GuardImage) (was is : SequenceImage) (records after : List SequenceRecordImage) (number : ℕ)
      (sending : SendingImage) → RunsInMemory steps tries rules marks was →
      (call : NextIn old was steps records number new is after sending) → IsReadNext call →
      RunsInMemory steps tries rules (marks_next call ++ marks) is
  hears : (marks : List Mark) (old new : GuardImage) (was is : SequenceImage) (entry : Entry) (step : HostStep) →
      RunsInMemory steps tries rules marks was → (call : HearsIn old was entry step new is) → IsReadHeard call →
      RunsInMemory steps tries rules marks is
  reads : (marks : List Mark) (old new : GuardImage) (was is : SequenceImage) (bytes : List ℕ) (step : HostStep) →
      RunsInMemory steps tries rules marks was → (call : ReadIn old was bytes step new is) → IsReadBack call →
      RunsInMemory steps tries rules marks is

-- the memory means a sequence of which the law of lists speaks
pub record IsRun (steps : List SequenceStepImage) (tries rules : ℕ) (marks : List Mark) (image : SequenceImage) : Type 0 where
  pub q : Sequence
  pub held : sequence_in image ≡ Some q
  pub runs : Runs (places_of steps) tries (rules_said rules) marks q

-- A list that has come to Reached left no step, each has begun, and each that has to deliver was found to after its last order.
abbrev pub ReachedInMemory : Type 0
ReachedInMemory = (steps : List SequenceStepImage) (tries rules : ℕ) (marks : List Mark) (image : SequenceImage) (q : Sequence) →
    RunsInMemory steps tries rules marks image → sequence_in image ≡ Some q → q.end ≡ Some end.Reached →
    NoneLeft marks × (length steps ≤ q.list.begun)
    × ((place : ℕ) → must (places_of steps place) ≡ true → settled (places_of steps) marks (suc place) ≡ true)

-- what the law says
pub record SequenceCallsAreRuns : Type 0 where
  pub runs : (steps : List SequenceStepImage) (tries rules : ℕ) (marks : List Mark) (image : SequenceImage) →
      RunsInMemory steps tries rules marks image → IsRun steps tries rules marks image
  pub reached : ReachedInMemory
