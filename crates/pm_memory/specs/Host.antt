-- What the calls of a host answer and do, by the host's own model. Memory that holds no host, a code
-- that is no cell's and a frame of the other kind are refused first; then the host decides.
use Rattle.std.specs.Prelude.{◌≡◌, ◌≢◌, ◌≤◌, ℕ, Bool, true, false, if◌then◌else◌, ◌∷◌, Option, Some, None, option_map}
use Rattle.std.specs.Prelude.{option_and_then, MatchOption, Result, Ok, Err}
use Rattle.std.specs.Option.{option_map_or}
use Rattle.pm_table.specs.declared.cell.Cell.{Cell}
use Rattle.pm_frame.specs.declared.message.Message.{Message}
use Rattle.pm_frame.specs.Fault.{answer_fault}
use Rattle.pm_frame.specs.FaultWords.{frame_fault_number}
use Rattle.pm_limits.specs.declared.fault.LimitFault.{LimitFault}
use Rattle.pm_limits.specs.FaultWords.{limit_fault_number}
use Rattle.pm_limits.specs.Guard.{Guarded, guard_fault}
use Rattle.pm_memory.specs.declared.guard_image.GuardImage.{GuardImage}
use Rattle.pm_memory.specs.Guard.{guard_of}
use Rattle.pm_host.specs.declared.job.Job.{Job}
use Rattle.pm_host.specs.declared.job.JobEnd.TheVariants.{Done, Differs, Unknown, Learned}
use Rattle.pm_host.specs.declared.host.Step.{Step}
use Rattle.pm_host.specs.declared.stage.Stage.{Stage}
use Rattle.pm_host.specs.declared.host.Step.TheVariants.{Next, Ended}
use Rattle.pm_host.specs.declared.fault.HostFault.TheVariants.{UnknownOutput}
use Rattle.pm_host.specs.declared.standing_image.StandingImage.{StandingImage}
use Rattle.pm_host.specs.declared.words_image.WordsImage.{WordsImage}
use Rattle.pm_table.specs.Cell.{is_cell}
use Rattle.pm_host.specs.Image.{host_of, standing_held, words_held}
use Rattle.pm_host.specs.Jobs.{accepted_job}
use Rattle.pm_host.specs.Refusals.{is_within, setup_fault, may_come}
use Rattle.pm_host.specs.Summary.{Summary, host_next, step_of, sending_in, possible_at, standing_at}
use Rattle.pm_host.specs.Transcript.{Entry, Accepted, Got}
use Rattle.pm_memory.specs.declared.host_step.HostStep.{HostStep}
use Rattle.pm_memory.specs.declared.sending_image.SendingImage.{SendingImage}
use Rattle.pm_memory.specs.Memory.{IsMemory}
use Rattle.pm_memory.specs.Numbers.{accepted, no_host, no_cell, other_frame, no_address, outcome, limit_outcome}
use Rattle.pm_host.specs.FaultWords.{host_fault_number}
use Rattle.pm_memory.specs.Sending.{IsNothing, IsSending}

-- a host is made
abbrev pub new_number : ℕ → ℕ → ℕ → ℕ
new_number address outputs passes =
    if is_within 0x08 0x77 address then outcome (setup_fault outputs passes) else no_address

-- A job begins: the number, and the host after it. None is asked for by a code that is no cell's.
abbrev pub job_number : Option Guarded → Option Job → ℕ
job_number None job = no_host
job_number (Some g) None = no_cell
job_number (Some g) (Some job) = limit_outcome (guard_fault g job)

abbrev pub job_begun : Option Summary → Option Job → Option Summary
job_begun host job = option_and_then (λ s. option_map (λ accepted. host_next s (Accepted accepted))
    (option_and_then (accepted_job s) job)) host

-- How a call begins a job: exactly where the guard of these limits refuses it, it is refused, and leaves the
-- memory as it is. The limits and the registers stay, and what stands in memory stays a function of what it means.
pub record BeginsJob (old : GuardImage) (job : Option Job) (result : ℕ) (new : GuardImage) : Type 0 where
  pub number : result ≡ job_number (guard_of old) job
  pub begun : result ≡ 0 → host_of new.host ≡ job_begun (host_of old.host) job
  pub limits : new.limits ≡ old.limits
  pub registers : new.registers ≡ old.registers
  pub written : IsMemory old → IsMemory new
  pub refused : result ≢ 0 → new ≡ old

-- the memory holds a host
abbrev pub memory_number : Option Summary → ℕ
memory_number None = no_host
memory_number (Some s) = accepted

-- what is being sent
abbrev pub IsHostSending : Option Summary → SendingImage → Type 0
IsHostSending None sending = IsNothing sending
IsHostSending (Some s) sending = MatchOption (sending_in s) (IsNothing sending)
    (λ message. IsSending s.setup.addr message sending)

-- how a call that tells what became of a frame is answered
abbrev pub step_kind : Step → ℕ
step_kind Next = 0
step_kind (Ended Done) = 1
step_kind (Ended (Differs word)) = 2
step_kind (Ended Unknown) = 3
step_kind (Ended Learned) = 4

-- with Differs the word that was read, with Unknown which fault the last answer had
abbrev pub step_word : ℕ → Step → ℕ
step_word fault (Ended (Differs word)) = word
step_word fault (Ended Unknown) = fault
step_word fault _ = 0

abbrev pub host_step : ℕ → Step → HostStep
host_step fault step = record { kind = step_kind step; word = step_word fault step }

-- which fault the answer to a message had, by its number: 0 where nothing came, where what came is good, and where
-- the message is no request
abbrev pub told_fault : ℕ → Message → Entry → ℕ
told_fault addr message (Got (byte ∷ bytes)) =
    option_map_or frame_fault_number (answer_fault addr message (byte ∷ bytes)) 0
told_fault addr message entry = 0

abbrev pub fault_in : Summary → Entry → ℕ
fault_in s entry = option_map_or (λ message. told_fault s.setup.addr message entry) (sending_in s) 0

abbrev pub refused_step : ℕ → HostStep
refused_step number = record { kind = number; word = 0 }

-- the entry may come where a host is there that is sending a frame of its kind
abbrev pub may_be_told : Option Summary → Entry → Bool
may_be_told host entry = option_map_or (λ s. may_come s entry) host false

abbrev pub told_answer : Option Summary → Entry → HostStep
told_answer None entry = refused_step no_host
told_answer (Some s) entry =
    if may_come s entry then host_step (fault_in s entry) (step_of s entry) else refused_step other_frame

abbrev pub host_after_entry : Option Summary → Entry → Option Summary
host_after_entry host entry = option_map (λ s. host_next s entry) host

-- how a call tells it: a refused call leaves the memory as it is, and the limits stay
pub record TellsHost (old : GuardImage) (entry : Entry) (result : HostStep) (new : GuardImage) : Type 0 where
  pub answer : result ≡ told_answer (host_of old.host) entry
  pub told : may_be_told (host_of old.host) entry ≡ true → host_of new.host ≡ host_after_entry (host_of old.host) entry
  pub limits : new.limits ≡ old.limits
  pub registers : new.registers ≡ old.registers
  pub written : IsMemory old → IsMemory new
  pub refused : may_be_told (host_of old.host) entry ≡ false → new ≡ old

-- what is asked of a cell
abbrev pub cell_number : Option Summary → Option Cell → ℕ
cell_number None cell = no_host
cell_number (Some s) None = no_cell
cell_number (Some s) (Some cell) =
    if is_cell s.setup.outputs cell then accepted else host_fault_number UnknownOutput

-- what is said of a cell: 1 where its word is confirmed, otherwise 0, whatever the memory has there
abbrev pub IsStanding : Option Summary → Option Cell → StandingImage → Type 0
IsStanding (Some s) (Some cell) said =
    (standing_held said ≡ standing_at s cell) × (said.is_confirmed ≤ 1)
IsStanding _ _ said = Unit {0}

-- a count of words that are there, whatever the memory has there: 0 where any word is possible
abbrev pub IsPossible : Option Summary → Option Cell → WordsImage → Type 0
IsPossible (Some s) (Some cell) words =
    (words_held words ≡ possible_at s cell) × (words.count ≤ 16)
IsPossible _ _ words = Unit {0}

-- 1 where a restart of the device was seen, 0 where none was
abbrev pub seen_number : Option Summary → ℕ
seen_number None = no_host
seen_number (Some s) = if s.known.seen then 1 else 0
