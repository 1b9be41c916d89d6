-- What an output commands while wanted words are written to it, over lives in which the part may restart at any moment: this
-- project's own choice. Lists are newest first.
use Rattle.std.specs.Prelude.{◌≡◌, ◌<◌, if◌then◌else◌, ℕ, true, false, List, [], ◌∷◌, ◌++◌, Option, Some, None}
use Rattle.std.specs.List.{list_any}
use Rattle.pm_num.specs.Ratio.{is_above}
use Rattle.pm_table.specs.declared.cell.Cell.TheVariants.{Out}
use Rattle.pm_table.specs.declared.reg.Reg.TheVariants.{Operation, VoutMax, VoutMin}
use Rattle.pm_table.specs.Operation.{selected_register}
use Rattle.pm_model.specs.Settings.{word_at}
use Rattle.pm_device.specs.declared.config.Config.{Config}
use Rattle.pm_device.specs.Held.{value_for}
use Rattle.pm_host.specs.declared.command.Command.TheVariants.{StoreUserAll, RestoreUserAll}
use Rattle.pm_host.specs.Refusals.{is_busy}
use Rattle.pm_host.specs.Transcript as host
use Rattle.pm_rail.specs.Plan.{commands_by, goal_of, is_cut_by}
use Rattle.pm_rail.specs.Registers.{Held, Wants}
use Rattle.pm_world.specs.Mixed.{AreMixed, LiesAmong, start_let_go}
use Rattle.pm_world.specs.declared.event.Event.{Event}
use Rattle.pm_world.specs.Confirmed.{restarts_converter}
use Rattle.pm_world.specs.Honest.{IsSpelled}
use Rattle.pm_world.specs.Life.{now}
use Rattle.pm_world.specs.Limited.{commands}
use Rattle.pm_world.specs.Lived.{IsLived}
use Rattle.pm_world.specs.Plans.{held_at}
use Rattle.pm_world.specs.State.{asked}

-- the words that an output's registers have stored after some events: those that a restart gives them
abbrev pub stored_at : Config → ℕ → List Event → ℕ → Held
stored_at config passes events output register = word_at (now config passes events).device.store (Out output register)

-- what the host is asked for is no store and no restore, and no order of this output but of a wanted word
abbrev pub MayWrite : ℕ → Wants → Option host.Job → Type 0
MayWrite output wants (Some (host.Order (Out other register) word)) = other ≡ output → wants register ≡ Some word
MayWrite output wants (Some (host.Send StoreUserAll)) = ⊥
MayWrite output wants (Some (host.Send RestoreUserAll)) = ⊥
MayWrite output wants job = Unit {0}

-- each of the later events asks for nothing but such a job, whatever their order, and however often
abbrev pub WritesWanted : Config → ℕ → ℕ → Wants → List Event → List Event → Type 0
WritesWanted config passes output wants [] before = Unit {0}
WritesWanted config passes output wants (event ∷ later) before =
    MayWrite output wants (asked (now config passes (later ++ before)) event)
    × WritesWanted config passes output wants later before

-- the words that the output's registers had before the first wanted one: where the part restarted since, the stored ones
abbrev pub first_words : Config → ℕ → ℕ → List Event → List Event → Held
first_words config passes output later before =
    if list_any restarts_converter later then stored_at config passes before output else held_at config passes before output

-- The host is idle before the later of these events; from then on nothing is written to the output but wanted words, and
-- nothing is stored or restored. The converter may restart at any moment, seen or unseen. Then each register holds its first
-- word or what is to be held at the end (`words`). Where the converter restarted, and the stored byte of OPERATION selects
-- the same register, and neither the stored words nor what is to be held at the end is cut, the output commands a value
-- between what it commands at its start and what is wanted (`between`). Where the stored word is cut, but the stored
-- VOUT_MIN isn't above the stored VOUT_MAX, it may be let go as far as the wanted limits (`let_go`).
pub record KeepsBetween (config : Config) (passes : ℕ) (events : List Event) : Type 0 where
  pub words : (output : ℕ) (wants : Wants) (later before : List Event) → events ≡ later ++ before → output < config.count →
      is_busy (now config passes before).host ≡ false → WritesWanted config passes output wants later before →
      AreMixed (first_words config passes output later before) (goal_of (held_at config passes before output) wants)
      (held_at config passes events output)
  pub between : (output : ℕ) (wants : Wants) (later before : List Event) → events ≡ later ++ before → output < config.count →
      is_busy (now config passes before).host ≡ false → WritesWanted config passes output wants later before →
      list_any restarts_converter later ≡ true → wants Operation ≡ None →
      selected_register (stored_at config passes before output Operation)
      ≡ selected_register (held_at config passes before output Operation) →
      is_cut_by (value_for config output) (stored_at config passes before output) ≡ false →
      is_cut_by (value_for config output) (goal_of (held_at config passes before output) wants) ≡ false →
      LiesAmong (commands_by (value_for config output) (stored_at config passes before output) ∷
      commands_by (value_for config output) (goal_of (held_at config passes before output) wants) ∷ [])
      (commands config passes events output)
  pub let_go : (output : ℕ) (wants : Wants) (later before : List Event) → events ≡ later ++ before → output < config.count →
      is_busy (now config passes before).host ≡ false → WritesWanted config passes output wants later before →
      list_any restarts_converter later ≡ true → wants Operation ≡ None →
      selected_register (stored_at config passes before output Operation)
      ≡ selected_register (held_at config passes before output Operation) →
      is_above (value_for config output (stored_at config passes before output VoutMin))
      (value_for config output (stored_at config passes before output VoutMax)) ≡ false →
      is_cut_by (value_for config output) (goal_of (held_at config passes before output) wants) ≡ false →
      LiesAmong (commands_by (value_for config output) (stored_at config passes before output) ∷
      commands_by (value_for config output) (goal_of (held_at config passes before output) wants) ∷
      start_let_go (value_for config output) (stored_at config passes before output)
      (goal_of (held_at config passes before output) wants) (held_at config passes before output Operation) ∷ [])
      (commands config passes events output)

-- in each life
abbrev pub RestartsKeepBetween : Type 0
RestartsKeepBetween = (config : Config) (passes : ℕ) (events : List Event) → IsSpelled config → IsLived config passes events →
    KeepsBetween config passes events
