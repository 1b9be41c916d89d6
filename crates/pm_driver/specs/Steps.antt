-- What sending one frame comes to, for the loop that sends them all.
use Rattle.std.specs.Prelude.{◌≡◌, ℕ, true, List, [], ◌∷◌, Option, Some, None, length}
use Rattle.pm_device.specs.Held.{Held}
use Rattle.pm_host.specs.declared.job.JobEnd.{JobEnd}
use Rattle.pm_host.specs.declared.host.Step.{Step}
use Rattle.pm_host.specs.declared.host.Step.TheVariants.{Next}
use Rattle.pm_host.specs.Refusals.{is_busy, job_fault}
use Rattle.pm_host.specs.Summary.{Summary, host_next, step_of}
use Rattle.pm_host.specs.Transcript.{Job, Accepted, Restarted}
use Rattle.pm_world.specs.State.{end_by}
use Rattle.pm_driver.specs.Acts.{Began, Call, Called, Looked, MayDo, Read, Renewed, Wrote, told_of_call}
use Rattle.pm_driver.specs.Bus.{IsSent, IsAsked}
use Rattle.pm_driver.specs.Lives.{Leads}

-- how the job ended with a step
abbrev pub end_in_step : Option Step → Option JobEnd
end_in_step None = None
end_in_step (Some step) = end_by step

-- a job is open after a step that doesn't end it
abbrev pub StaysOpen : Option Step → Summary → Type 0
StaysOpen (Some Next) host = is_busy host ≡ true
StaysOpen step host = Unit {0}

-- what the bus does to the converter by a call
abbrev pub IsCalled : Call → Held → ℕ → Held → ℕ → Type 0
IsCalled (Wrote frame acked) old was new is = IsSent frame old was new is
IsCalled (Read request room came) old was new is = IsAsked request (length room) old was came new is

-- A call of the frame that the host was sending, whose answer the host is told, leads on.
abbrev pub FramesLead : {B : Type 0} → (B → Call → B → Type 0) → (B → Held) → (B → ℕ) → Type 0
FramesLead {B = B} gives held restarts = (call : Call) (host : Summary) (old new : B) →
    MayDo host (Called call) → IsCalled call (held old) (restarts old) (held new) (restarts new) → gives old call new →
    Leads gives held restarts [] (end_by (step_of host (told_of_call call)))
    (record { host = host; bus = old }) (record { host = host_next host (told_of_call call); bus = new })

-- A read that is no job leads on, while no job is open and where no beginning of its request is a write.
abbrev pub LooksLead : {B : Type 0} → (B → Call → B → Type 0) → (B → Held) → (B → ℕ) → Type 0
LooksLead {B = B} gives held restarts = (request room came : List ℕ) (host : Summary) (old new : B) →
    MayDo host (Looked request room came) →
    IsAsked request (length room) (held old) (restarts old) came (held new) (restarts new) →
    gives old (Read request room came) new →
    Leads gives held restarts (Looked request room came ∷ []) None
    (record { host = host; bus = old }) (record { host = host; bus = new })

-- A restart of the host leads on.
abbrev pub RenewalsLead : {B : Type 0} → (B → Call → B → Type 0) → (B → Held) → (B → ℕ) → Type 0
RenewalsLead {B = B} gives held restarts = (host : Summary) (bus : B) →
    Leads gives held restarts (Renewed ∷ []) None
    (record { host = host; bus = bus }) (record { host = host_next host Restarted; bus = bus })

-- A job that the host accepts leads on.
abbrev pub JobsLead : {B : Type 0} → (B → Call → B → Type 0) → (B → Held) → (B → ℕ) → Type 0
JobsLead {B = B} gives held restarts = (host : Summary) (bus : B) (job : Job) → job_fault host job ≡ None →
    Leads gives held restarts (Began job ∷ []) None
    (record { host = host; bus = bus }) (record { host = host_next host (Accepted job); bus = bus })
