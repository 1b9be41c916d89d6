-- What a driver does, call by call: the calls of its bus, with what they answered, the jobs and restarts of its host, and
-- the reads that are no job. Lists are newest first.
use Rattle.std.specs.Prelude.{◌≡◌, ◌≢◌, ◌++◌, ℕ, Bool, false, List, [], ◌∷◌, Option, Some, None, IsSomeAnd, option_to_list, replicate, take}
use Rattle.pm_frame.specs.Fault.{whole_answer, write_fault}
use Rattle.pm_frame.specs.Layout.{IsWrite, IsRequest}
use Rattle.pm_host.specs.Refusals.{is_busy, job_fault}
use Rattle.pm_host.specs.Summary.{Summary, sending_in}
use Rattle.pm_host.specs.Transcript.{Job, Entry, Accepted, Finished, Got, Restarted}
use Rattle.pm_world.specs.State.{host_after}

-- one call of a bus, and what it answered
pub data Call : Type 0 where
  -- this frame was sent, and acknowledged or not
  Wrote : (frame : List ℕ) (acked : Bool) → Call
  -- this request was sent with this room for its answer, and these bytes came back
  Read : (request : List ℕ) (room : List ℕ) (came : List ℕ) → Call

-- one act of a driver
pub data Act : Type 0 where
  -- a call of its bus for a frame of its host's
  Called : (call : Call) → Act
  -- its host accepted a job
  Began : (job : Job) → Act
  -- its host restarted
  Renewed : Act
  -- a read that is no job: this request was sent with this room for its answer, and these bytes came back
  Looked : (request : List ℕ) (room : List ℕ) (came : List ℕ) → Act

-- what the host is told by a call, and by an act: nothing of a read that is no job
abbrev pub told_of_call : Call → Entry
told_of_call (Wrote frame acked) = Finished acked
told_of_call (Read request room came) = Got came

abbrev pub told_by_act : Act → Option Entry
told_by_act (Called call) = Some (told_of_call call)
told_by_act (Began job) = Some (Accepted job)
told_by_act Renewed = Some Restarted
told_by_act (Looked request room came) = None

abbrev pub told_all : List Act → List Entry
told_all [] = []
told_all (act ∷ before) = option_to_list (told_by_act act) ++ told_all before

-- what the host holds after acts
abbrev pub host_by : Summary → List Act → Summary
host_by s [] = s
host_by s (act ∷ before) = host_after (host_by s before) (told_by_act act)

-- No beginning of these bytes is a write to this address: wherever a stop cuts them off, the converter takes nothing.
pub record IsNoWrite (addr : ℕ) (bytes : List ℕ) : Type 0 where
  pub cut : (count : ℕ) → write_fault addr (take count bytes) ≢ None

-- A call sends the frame of the message that the host was sending, and a read has room for just a whole answer, all
-- zero. A job is one that the host doesn't refuse. A read that is no job comes while no job is open, and no beginning of
-- its request is a write.
abbrev pub MayDo : Summary → Act → Type 0
MayDo s (Called (Wrote frame acked)) =
    IsSomeAnd (sending_in s) (λ message. IsWrite s.setup.addr message frame)
MayDo s (Called (Read request room came)) =
    IsSomeAnd (sending_in s) (λ message. IsRequest s.setup.addr message request)
    × IsSomeAnd (sending_in s) (λ message. room ≡ replicate (whole_answer message) 0)
MayDo s (Began job) = job_fault s job ≡ None
MayDo s Renewed = Unit {0}
MayDo s (Looked request room came) = (is_busy s ≡ false) × IsNoWrite s.setup.addr request

-- each of the acts may be done after those before it
abbrev pub AreDone : Summary → List Act → Type 0
AreDone s [] = Unit {0}
AreDone s (act ∷ before) = MayDo (host_by s before) act × AreDone s before

-- The calls among the acts, each from the bus that the one before it left, lead from this bus to that one: no call
-- more than these, none fewer, and none in another order.
abbrev pub AreCalls : {B : Type 0} → (B → Call → B → Type 0) → B → List Act → B → Type 0
AreCalls gives old [] new = old ≡ new
AreCalls {B = B} gives old (Called call ∷ before) new =
    (bus : B) × AreCalls gives old before bus × gives bus call new
AreCalls gives old (Began job ∷ before) new = AreCalls gives old before new
AreCalls gives old (Renewed ∷ before) new = AreCalls gives old before new
AreCalls {B = B} gives old (Looked request room came ∷ before) new =
    (bus : B) × AreCalls gives old before bus × gives bus (Read request room came) new

-- what the driver was asked for: the acts that are no frames of its host's
abbrev pub asked_in : List Act → List Act
asked_in [] = []
asked_in (Called call ∷ before) = asked_in before
asked_in (Began job ∷ before) = Began job ∷ asked_in before
asked_in (Renewed ∷ before) = Renewed ∷ asked_in before
asked_in (Looked request room came ∷ before) = Looked request room came ∷ asked_in before
