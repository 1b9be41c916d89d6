-- A course to wanted words while the part restarts: this project's own choice. Lists are newest first.
use Rattle.std.specs.Prelude.{◌≡◌, ◌<◌, ℕ, true, false, List, [], ◌∷◌, ◌++◌, Option, Some}
use Rattle.std.specs.List.{list_any}
use Rattle.pm_num.specs.Ratio.{is_above}
use Rattle.pm_table.specs.declared.reg.Reg.TheVariants.{Operation, VoutMax, VoutMin}
use Rattle.pm_table.specs.Operation.{selected_register}
use Rattle.pm_device.specs.declared.config.Config.{Config}
use Rattle.pm_device.specs.Held.{value_for}
use Rattle.pm_host.specs.declared.command.Command.TheVariants.{StoreUserAll}
use Rattle.pm_host.specs.Refusals.{is_busy}
use Rattle.pm_host.specs.Transcript as host
use Rattle.pm_limits.specs.declared.part_registers.PartRegisters.{PartRegisters}
use Rattle.pm_rail.specs.declared.course.Course.{Course}
use Rattle.pm_rail.specs.declared.wanted.Wanted.{Wanted}
use Rattle.pm_rail.specs.Course.{course_of}
use Rattle.pm_rail.specs.Laws.{IsStep}
use Rattle.pm_rail.specs.Plan.{commands_by, goal_of, is_cut_by}
use Rattle.pm_rail.specs.Registers.{wants_of}
use Rattle.pm_world.specs.declared.event.Event.{Event}
use Rattle.pm_world.specs.Across.{WritesWanted, stored_at}
use Rattle.pm_world.specs.Bands.{HoldsMissing}
use Rattle.pm_world.specs.Confirmed.{restarts_converter}
use Rattle.pm_world.specs.Courses.{IsCourse, goal_at}
use Rattle.pm_world.specs.Honest.{IsSpelled}
use Rattle.pm_world.specs.Life.{now}
use Rattle.pm_world.specs.Limited.{commands}
use Rattle.pm_world.specs.Lived.{IsLived}
use Rattle.pm_world.specs.Mixed.{LiesAmong, start_let_go}
use Rattle.pm_world.specs.Plans.{held_at}
use Rattle.pm_world.specs.State.{asked}
use Rattle.pm_world.specs.Surveys.{MissingUnread}

-- no store is asked for, by one event and by each of several
abbrev pub IsNoStore : Option host.Job → Type 0
IsNoStore (Some (host.Send StoreUserAll)) = ⊥
IsNoStore job = Unit {0}

abbrev pub AsksNoStore : Config → ℕ → List Event → List Event → Type 0
AsksNoStore config passes [] before = Unit {0}
AsksNoStore config passes (event ∷ later) before =
    IsNoStore (asked (now config passes (later ++ before)) event) × AsksNoStore config passes later before

-- A course to wanted words began while the host was idle, and these events came since, in which nobody asked for a store.
pub record GoesOn (config : Config) (passes : ℕ) (part : PartRegisters) (output : ℕ) (wanted : Wanted) (tries : ℕ) (course : Course)
    (later before : List Event) : Type 0 where
  pub spelled : IsSpelled config
  pub lived : IsLived config passes (later ++ before)
  pub here : output < config.count
  pub idle : is_busy (now config passes before).host ≡ false
  pub is_course : IsCourse config passes part (course_of output wanted tries) before course later
  pub unstored : AsksNoStore config passes later before

-- Such a course writes nothing to its output but wanted words (`writes`). At each moment before the part first restarts, the output
-- commands what it did at an earlier one, or what is wanted, also if the part restarts later (`earlier`). Of a part that lacks VOUT_MIN
-- or VOUT_MAX its cell then holds the word that never cuts, and the host was told nothing of it. At each moment after a restart the output
-- commands a value between its start value and what is wanted (`between`), if the stored byte of OPERATION selects the register that
-- the held one did, and neither the stored words nor those that are to be held at the end are cut. If the stored word is cut, but the
-- stored VOUT_MIN isn't above the stored VOUT_MAX, it may be let go as far as the wanted limits (`let_go`).
pub record CoursesKeepBetween : Type 0 where
  pub writes : (config : Config) (passes : ℕ) (part : PartRegisters) (output : ℕ) (wanted : Wanted) (tries : ℕ) (course : Course)
      (later before : List Event) → GoesOn config passes part output wanted tries course later before →
      WritesWanted config passes output (wants_of wanted) later before
  pub earlier : (config : Config) (passes : ℕ) (part : PartRegisters) (output : ℕ) (wanted : Wanted) (tries : ℕ) (course : Course)
      (rest newer later before : List Event) →
      GoesOn config passes part output wanted tries course (rest ++ (newer ++ later)) before →
      list_any restarts_converter (newer ++ later) ≡ false →
      MissingUnread config passes part output before → HoldsMissing part config (now config passes before).device.words output →
      IsStep (goal_at config passes output wanted before)
      (commands config passes (later ++ before) output) (commands config passes ((newer ++ later) ++ before) output)
  pub between : (config : Config) (passes : ℕ) (part : PartRegisters) (output : ℕ) (wanted : Wanted) (tries : ℕ) (course : Course)
      (rest later before : List Event) → GoesOn config passes part output wanted tries course (rest ++ later) before →
      list_any restarts_converter later ≡ true →
      selected_register (stored_at config passes before output Operation)
      ≡ selected_register (held_at config passes before output Operation) →
      is_cut_by (value_for config output) (stored_at config passes before output) ≡ false →
      is_cut_by (value_for config output) (goal_of (held_at config passes before output) (wants_of wanted)) ≡ false →
      LiesAmong (commands_by (value_for config output) (stored_at config passes before output) ∷
      goal_at config passes output wanted before ∷ []) (commands config passes (later ++ before) output)
  pub let_go : (config : Config) (passes : ℕ) (part : PartRegisters) (output : ℕ) (wanted : Wanted) (tries : ℕ) (course : Course)
      (rest later before : List Event) → GoesOn config passes part output wanted tries course (rest ++ later) before →
      list_any restarts_converter later ≡ true →
      selected_register (stored_at config passes before output Operation)
      ≡ selected_register (held_at config passes before output Operation) →
      is_above (value_for config output (stored_at config passes before output VoutMin))
      (value_for config output (stored_at config passes before output VoutMax)) ≡ false →
      is_cut_by (value_for config output) (goal_of (held_at config passes before output) (wants_of wanted)) ≡ false →
      LiesAmong (commands_by (value_for config output) (stored_at config passes before output) ∷
      goal_at config passes output wanted before ∷
      start_let_go (value_for config output) (stored_at config passes before output)
      (goal_of (held_at config passes before output) (wants_of wanted)) (held_at config passes before output Operation) ∷ [])
      (commands config passes (later ++ before) output)
