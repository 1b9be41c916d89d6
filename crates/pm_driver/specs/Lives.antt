-- What a driver's acts come to, over every life that may have led to where they began: this project's own choice.
-- Lists are newest first.
use Rattle.std.specs.Prelude.{◌≡◌, ◌+◌, ℕ, Bool, true, false, List, [], ◌∷◌, ◌++◌, Option, Some, None}
use Rattle.pm_device.specs.declared.config.Config.{Config}
use Rattle.pm_device.specs.Held.{Held}
use Rattle.pm_host.specs.declared.job.Job.{Job}
use Rattle.pm_host.specs.declared.job.JobEnd.{JobEnd}
use Rattle.pm_host.specs.Summary.{Summary}
use Rattle.pm_world.specs.declared.event.Event.{Event}
use Rattle.pm_world.specs.declared.event.Event.TheVariants.{Finish, Exchange}
use Rattle.pm_world.specs.Job.{asked_by}
use Rattle.pm_world.specs.Life.{life, now}
use Rattle.pm_world.specs.Lived.{IsLived}
use Rattle.pm_world.specs.Uncertainty.{job_event}
use Rattle.pm_part_laws.specs.Settings.{HaveSameSettings}
use Rattle.pm_driver.specs.Bus.{restarts_in}
use Rattle.pm_driver.specs.Acts.{Act, Began, Call, AreCalls, AreDone, asked_in, host_by, told_all}

-- a driver: what its host holds, and its bus
pub record Driven (B : Type 0) : Type 0 where
  pub host : Summary
  pub bus : B

-- Events that were lived through, and lead to this host and to this converter's words and store. The converter's PAGE and
-- readings may be any that something before the host left, and so may the status bits that are latched.
pub record IsLife (config : Config) (passes : ℕ) (events : List Event) (host : Summary) (held : Held) : Type 0 where
  pub lived : IsLived config passes events
  pub host_is : (now config passes events).host ≡ host
  pub held_is : HaveSameSettings (now config passes events).device held

-- the newest event is one that the host was told of, so nothing happened after it
abbrev pub newest_tells : List Event → Bool
newest_tells (Finish acked ∷ before) = true
newest_tells (Exchange arrival back ∷ before) = true
newest_tells _ = false

-- a job that ended did so with the newest event, one that the host was told of
abbrev pub EndsTold : Option JobEnd → List Event → Type 0
EndsTold None events = Unit {0}
EndsTold (Some end) events = newest_tells events ≡ true

abbrev pub EndsSo : Option JobEnd → Option JobEnd → Type 0
EndsSo None last = Unit {0}
EndsSo (Some end) last = last ≡ Some end

-- What acts come to over a life: with these further events it leads to this host and this converter, the host was
-- told just what the acts tell it, in their order, and the last job ended so.
pub record Goes (config : Config) (passes : ℕ) (before events : List Event) (acts : List Act) (end : Option JobEnd) (host : Summary) (held : Held) : Type 0 where
  pub is_life : IsLife config passes (events ++ before) host held
  pub told : (life config passes (events ++ before)).entries
      ≡ told_all acts ++ (life config passes before).entries
  pub ended : EndsSo end (now config passes (events ++ before)).end

-- the jobs that events ask for, and those that acts begin, as an event asks for them
abbrev pub with_job : Option Job → List Job → List Job
with_job None jobs = jobs
with_job (Some job) jobs = job ∷ jobs

abbrev pub jobs_asked : List Event → List Job
jobs_asked [] = []
jobs_asked (event ∷ before) = with_job (asked_by event) (jobs_asked before)

abbrev pub jobs_begun : List Act → List Job
jobs_begun [] = []
jobs_begun (Began job ∷ acts) = with_job (asked_by (job_event job)) (jobs_begun acts)
jobs_begun (act ∷ acts) = jobs_begun acts

-- A driver leads from one host and bus to another, asked for just these jobs, restarts of its host and reads that are no
-- job. There are acts, with these among them, whose calls lead from the one bus to the other, each other one of the frame
-- that the host was sending, and what each of those answered is what the host was told. And there are further events by
-- which every life that led to the old host and its converter leads to the new ones. A life's events that tell a
-- host something are those of the acts, and so are the jobs that they ask for (`orders`); the others are deliveries, restarts of the converter and readings. The bus counts the restarts among them (`count`).
pub record Leads {B : Type 0} (gives : B → Call → B → Type 0) (held : B → Held) (restarts : B → ℕ) (asked : List Act) (end : Option JobEnd) (old new : Driven B) : Type 0 where
  pub acts : List Act
  pub events : List Event
  pub asks : asked_in acts ≡ asked
  pub calls : AreCalls gives old.bus acts new.bus
  pub may : AreDone old.host acts
  pub host : host_by old.host acts ≡ new.host
  pub newest : EndsTold end events
  pub count : restarts_in events + restarts old.bus ≡ restarts new.bus
  pub orders : jobs_asked events ≡ jobs_begun acts
  pub lives : (config : Config) (passes : ℕ) (before : List Event) →
      IsLife config passes before old.host (held old.bus) →
      Goes config passes before events acts end new.host (held new.bus)
