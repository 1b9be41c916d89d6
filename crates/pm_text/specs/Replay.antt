-- What a replay results in: the report of the run of a text's scenario. This project's own choice.
use Rattle.std.specs.Prelude.{⊤, ◌≡◌, ℕ, List, [], ◌∷◌, length, Option, Some, None, Result, Ok, Err}
use Rattle.pm_device.specs.declared.config.Config.{Config}
use Rattle.pm_world.specs.Life.{AreTakenFrom, StopsFrom, after_all, now, taken_events}
use Rattle.pm_world.specs.Setup.{world_fault}
use Rattle.pm_world.specs.State.{State, cause_of}
use Rattle.pm_world.specs.declared.event.Event.{Event}
use Rattle.pm_world.specs.declared.cause.Cause.{Cause}
use Rattle.pm_setup.specs.declared.setup_fault.SetupFault.{SetupFault}
use Rattle.pm_world.specs.declared.cause.Stop.{Stop}
use Rattle.pm_lines.specs.Engine.{Engine}
use Rattle.pm_lines.specs.Lines.{Numbered}
use Rattle.pm_lines.specs.declared.fault.TextFault.{TextFault}
use Rattle.pm_lines.specs.declared.fault.TextFault.TheVariants.{Syntax, BadHex, TooLong, Read, Write, Memory, Setup}
use Rattle.pm_text.specs.Kinds.{form_of}
use Rattle.pm_text.specs.Report.{report_text}
use Rattle.pm_text.specs.ScenarioText.{events_in, scenario_of}
use Rattle.pm_text.specs.declared.runs.Ran.{Ran}
use Rattle.pm_text.specs.declared.replays.ReplayEnd.{ReplayEnd}
use Rattle.pm_text.specs.declared.replays.ReplayEnd.TheVariants.{Ran as AllTaken, Stopped}
use Rattle.pm_text.specs.declared.form.Form.{Form}
use Rattle.pm_text.specs.declared.scenario.fault.ScenarioFault.{ScenarioFault}
use Rattle.pm_text.specs.declared.scenario.Scenario.{Scenario}

-- ---- the run of events

-- a stop at an event that has a cause against it, or one at a later event
abbrev pub stop_or : Option Cause → ℕ → Option Stop → Option Stop
stop_or (Some cause) at later = Some (record { at = at; cause = cause })
stop_or None at later = later

-- the stop of a run that took some events, newest first, and has others before it: at the first that has a cause against it
abbrev pub stop_after : Config → ℕ → List Event → List Event → Option Stop
stop_after config passes taken [] = None
stop_after config passes taken (event ∷ events) =
    stop_or (cause_of (now config passes taken) event) (length taken)
    (stop_after config passes (event ∷ taken) events)

-- how many of all events a run took that stops so
abbrev pub taken_by : Option Stop → ℕ → ℕ
taken_by None all = all
taken_by (Some stop) all = stop.at

-- the run of events, reported in this version, that stops so: the world that the taken ones leave, and how many
-- they are
abbrev pub ran_by : ℕ → Config → ℕ → List Event → Option Stop → Ran
ran_by version config passes events stop = record {
  version = version;
  world = now config passes (taken_events events stop);
  taken = length (taken_events events stop);
  stop = stop;
}

-- the run of a scenario's events
unfoldable pub run_of : Scenario → Ran
run_of scenario = ran_by scenario.version scenario.config scenario.passes scenario.events
    (stop_after scenario.config scenario.passes [] scenario.events)

-- The events of lines came upon a world, one after another, up to the first that isn't taken: the lines say
-- these events, the taken ones were taken, so many, and left this world, and they stopped so.
pub record HasLived (form : Form) (lines : List Numbered) (old : State) (events : List Event) (taken : ℕ) (stop : Option Stop) (new : State)
    : Type 0 where
  pub reads : events_in form lines ≡ Ok events
  pub after : new ≡ after_all old (taken_events events stop)
  pub all : AreTakenFrom old (taken_events events stop)
  pub stops : StopsFrom old events stop
  pub counts : taken ≡ taken_by stop (length events)

-- a call that lets the events of lines happen, and says how many were taken and where they stopped: the first
-- faulty line is named wherever it stands, and then nothing is said of the world
abbrev pub Lives : Form → List Numbered → State → Result (ℕ × Option Stop) ScenarioFault → State → Type 0
Lives form lines old (Ok ended) new = (events : List Event) × HasLived form lines old events ended.0 ended.1 new
Lives form lines old (Err fault) new = events_in form lines ≡ Err fault

-- ---- the replay of a text

-- a replay is stopped if its run is
abbrev pub replay_end_by : Option Stop → ReplayEnd
replay_end_by None = AllTaken
replay_end_by (Some stop) = Stopped

-- the report of a run by its version, and how the replay ended
abbrev pub report_and_end : Ran → List ℕ × ReplayEnd
report_and_end ran = (report_text (form_of ran.version) ran.world ran.taken ran.stop, replay_end_by ran.stop)

-- no world is made, or the run of the scenario is reported
abbrev pub told_or : Option SetupFault → Scenario → Result (List ℕ × ReplayEnd) TextFault
told_or (Some fault) scenario = Err (Setup fault)
told_or None scenario = Ok (report_and_end (run_of scenario))

abbrev pub replay_by : Result Scenario TextFault → Result (List ℕ × ReplayEnd) TextFault
replay_by (Err fault) = Err fault
replay_by (Ok scenario) = told_or (world_fault scenario.config scenario.passes) scenario

-- the report of what the input's scenario results in, or the first fault
unfoldable pub replay_of : List ℕ → Result (List ℕ × ReplayEnd) TextFault
replay_of input = replay_by (scenario_of input)

-- this is the run of the input's scenario, of which a world is made
abbrev pub IsScenarioRun : List ℕ → Ran → Type 0
IsScenarioRun input ran = (scenario : Scenario) × (scenario_of input ≡ Ok scenario)
    × (world_fault scenario.config scenario.passes ≡ None) × (ran ≡ run_of scenario)

-- the faults of a text that is run as it is read, which takes no memory
abbrev pub IsOfRun : TextFault → Type 0
IsOfRun (Syntax line) = ⊤
IsOfRun (BadHex line) = ⊤
IsOfRun TooLong = ⊥
IsOfRun Read = ⊥
IsOfRun Write = ⊥
IsOfRun Memory = ⊥
IsOfRun (Setup fault) = ⊤

-- the text is the report of the run of the input's scenario
abbrev pub IsReplay : List ℕ → List ℕ → ReplayEnd → Type 0
IsReplay input text end = replay_of input ≡ Ok (text, end)

-- a replay as an engine: it writes its report whole, and nothing before
abbrev pub replaying : Engine ReplayEnd
replaying = record { whole = replay_of; early = None }
