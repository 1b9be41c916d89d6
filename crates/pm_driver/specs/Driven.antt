-- What holds of a driver between two calls, what each call of it does, and what is true of it with no event in
-- sight: this project's own choice.
use Rattle.std.specs.Prelude.{◌≡◌, ℕ, true, false, List, [], ◌∷◌, Some, IfSome, IsSomeAnd, Result, IfOk, OnOk, OnErr}
use Rattle.std.specs.Result.{result_err}
use Rattle.pm_table.specs.declared.cell.Cell.{Cell}
use Rattle.pm_table.specs.Cell.{IsCell}
use Rattle.pm_model.specs.Settings.{word_at}
use Rattle.pm_device.specs.declared.config.Config.{Config}
use Rattle.pm_device.specs.Held.{Held}
use Rattle.pm_host.specs.declared.job.Job.{Job}
use Rattle.pm_host.specs.declared.job.JobEnd.{JobEnd}
use Rattle.pm_host.specs.Frames.{frames_left}
use Rattle.pm_host.specs.Jobs.{accepted_job}
use Rattle.pm_host.specs.Refusals.{IsSetup}
use Rattle.pm_host.specs.declared.knowledge.Standing.TheVariants.{Confirmed}
use Rattle.pm_host.specs.Possible.{is_possible}
use Rattle.pm_host.specs.Summary.{Summary, possible_at, standing_at, start}
use Rattle.pm_limits.specs.declared.fault.LimitFault.{LimitFault}
use Rattle.pm_limits.specs.Guard.{Guarded, guard_fault}
use Rattle.pm_world.specs.declared.event.Event.{Event}
use Rattle.pm_world.specs.Confirmed.{restarted_since}
use Rattle.pm_world.specs.Honest.{IsSpelled}
use Rattle.pm_world.specs.Parts.{IsPart}
use Rattle.pm_world.specs.Setup.{setup_of}
use Rattle.pm_driver.specs.Acts.{Began, Call}
use Rattle.pm_driver.specs.Ends.{EndSays, cell_of_end}
use Rattle.pm_driver.specs.Lives.{Driven, IsLife, Leads}

-- a driver: its host with its limits, and its bus
pub record Driving (B : Type 0) : Type 0 where
  pub guard : Guarded
  pub bus : B

-- a driver without its limits: its host and its bus
abbrev pub driven : {B : Type 0} → Driving B → Driven B
driven d = record { host = d.guard.host; bus = d.bus }

-- Some life led to this host and this converter, but for its latched bits of STATUS_CML (`IsLife`).
pub record HasLife (host : Summary) (held : Held) : Type 0 where
  pub config : Config
  pub passes : ℕ
  pub events : List Event
  pub spelled : IsSpelled config
  pub life : IsLife config passes events host held

-- Some life led to them in which the converter didn't restart since the host's last good answer for this cell; where
-- there was none, it never did.
pub record HasNoRestartSince (cell : Cell) (host : Summary) (held : Held) : Type 0 where
  pub has : HasLife host held
  pub since : restarted_since has.config has.passes cell has.events ≡ false

-- A part as it is, whatever came before: made soundly, by numbers that are those of bytes, with words held and stored that its
-- cells accept. What it starts with, PAGE, the readings and the latched status bits are any.
pub record IsAsItIs (held : Held) : Type 0 where
  pub part : IsPart held.config held.words held.store
  pub spelled : IsSpelled held.config

-- A driver may begin beside a part as it is: the host is as new, made for the part's address and outputs, and for any passes.
pub record MayBegin (host : Summary) (held : Held) : Type 0 where
  pub passes : ℕ
  pub is : IsAsItIs held
  pub setup : IsSetup (setup_of held.config passes)
  pub made : host ≡ start (setup_of held.config passes)

-- What a call does that asks for a job. It is refused exactly where the host or its limits refuse the job, and then
-- nothing changes. Otherwise the job is carried out: the driver leads to where it ended, no frame is left, and what
-- the end is worth holds. Of the cell that it ends with the reading of, the converter didn't restart since (`read`).
pub record Runs {B : Type 0} (gives : B → Call → B → Type 0) (held : B → Held) (restarts : B → ℕ) (job : Job) (old : Driving B) (result : Result JobEnd LimitFault) (new : Driving B) : Type 0 where
  pub fault : result_err result ≡ guard_fault old.guard job
  pub leads : IfOk result (λ end. IsSomeAnd (accepted_job old.guard.host job)
      (λ begun. Leads gives held restarts (Began begun ∷ []) (Some end) (driven old) (driven new)))
  pub says : IfOk result (λ end. IsSomeAnd (accepted_job old.guard.host job)
      (λ begun. EndSays begun new.guard.host (held new.bus) end))
  pub read : IfOk result (λ end. IsSomeAnd (accepted_job old.guard.host job)
      (λ begun. IfSome (cell_of_end begun end) (λ cell. HasNoRestartSince cell new.guard.host (held new.bus))))
  pub over : OnOk result (frames_left new.guard.host ≡ 0)
  pub err : OnErr result (new ≡ old)
  pub limits : new.guard.limits ≡ old.guard.limits
  pub registers : new.guard.registers ≡ old.guard.registers
  pub kept : new.guard.host.setup ≡ old.guard.host.setup

-- What holds of a host and a converter to which a life led. Where the converter didn't restart since a cell was read, what
-- the host calls confirmed of it is held (`stands`), and what is held is possible (`among`).
pub record IsTrueOf (host : Summary) (held : Held) : Type 0 where
  pub has : HasLife host held
  pub stands : (cell : Cell) (word : ℕ) → IsCell host.setup.outputs cell → HasNoRestartSince cell host held →
      standing_at host cell ≡ Confirmed word → word_at held.words cell ≡ word
  pub among : (cell : Cell) → IsCell host.setup.outputs cell → HasNoRestartSince cell host held →
      is_possible (word_at held.words cell) (possible_at host cell) ≡ true
