-- Lives that a world may have had, however many events they have: this project's own choice. Lists are newest first.
use Rattle.std.specs.Prelude.{◌≡◌, ℕ, List, [], ◌∷◌, ◌++◌, None}
use Rattle.pm_device.specs.declared.config.Config.{Config}
use Rattle.pm_device.specs.Start.{IsSound}
use Rattle.pm_host.specs.Refusals.{IsSetup}
use Rattle.pm_world.specs.declared.event.Event.{Event}
use Rattle.pm_world.specs.Life.{AreTaken, now}
use Rattle.pm_world.specs.Setup.{setup_of}
use Rattle.pm_world.specs.State.{IsTaken, event_cause}
use Rattle.pm_world.specs.Uncertainty.{AreLegal}

-- A world of this configuration lived through these events: nothing but their number may be against one.
pub record IsLived (config : Config) (passes : ℕ) (events : List Event) : Type 0 where
  pub sound : IsSound config
  pub made : IsSetup (setup_of config passes)
  pub legal : AreLegal config passes events

-- A world that can be made lived through no event (`none`), through one more that nothing is against (`more`), or that a
-- step takes (`step`), through what came before (`earlier`), and through all that it took (`taken`).
pub record EventsAreLived : Type 0 where
  pub none : (config : Config) (passes : ℕ) → IsSound config → IsSetup (setup_of config passes) →
      IsLived config passes []
  pub more : (config : Config) (passes : ℕ) (events : List Event) (event : Event) →
      IsLived config passes events → event_cause (now config passes events) event ≡ None →
      IsLived config passes (event ∷ events)
  pub step : (config : Config) (passes : ℕ) (events : List Event) (event : Event) →
      IsLived config passes events → IsTaken (now config passes events) event →
      IsLived config passes (event ∷ events)
  pub earlier : (config : Config) (passes : ℕ) (later events : List Event) →
      IsLived config passes (later ++ events) → IsLived config passes events
  pub taken : (config : Config) (passes : ℕ) (events : List Event) →
      IsSound config → IsSetup (setup_of config passes) → AreTaken config passes events →
      IsLived config passes events
