-- A course to wishes that hands out frames, beside a part as it is, while the part restarts and anybody reads it: this project's own choice.
-- Lists are newest first.
use Rattle.std.specs.Prelude.{◌≡◌, ◌<◌, ℕ, Bool, true, false, List, [], ◌∷◌, ◌++◌}
use Rattle.std.specs.List.{list_any}
use Rattle.pm_num.specs.Ratio.{is_above}
use Rattle.pm_table.specs.declared.cell.Cell.TheVariants.{Out}
use Rattle.pm_table.specs.declared.reg.Reg.TheVariants.{Operation, VoutMax, VoutMin}
use Rattle.pm_table.specs.Operation.{selected_register}
use Rattle.pm_model.specs.Settings.{word_at}
use Rattle.pm_device.specs.Held.{Held, value_for}
use Rattle.pm_host.specs.Refusals.{is_busy}
use Rattle.pm_limits.specs.declared.part_registers.PartRegisters.{PartRegisters}
use Rattle.pm_rail.specs.declared.wanted.Wanted.{Wanted}
use Rattle.pm_rail.specs.Course.{course_of}
use Rattle.pm_rail.specs.Laws.{IsStep}
use Rattle.pm_rail.specs.Plan.{commands_by, goal_of, is_cut_by}
use Rattle.pm_rail.specs.Registers.{wants_of}
use Rattle.pm_rail.specs.Registers as rail
use Rattle.pm_course.specs.declared.frame_course.FrameCourse.{FrameCourse}
use Rattle.pm_course.specs.declared.voltages.Voltages.{Voltages}
use Rattle.pm_course.specs.FrameCourse.{going_on}
use Rattle.pm_world.specs.Across.{MayWrite}
use Rattle.pm_world.specs.Bands.{HoldsMissing}
use Rattle.pm_world.specs.Mixed.{LiesAmong, start_let_go}
use Rattle.pm_part_laws.specs.Happenings.{EachAsks, Happening, IsLifeBeside, beside, restarts}
use Rattle.pm_part_laws.specs.OwnWords.{commands_beside}
use Rattle.pm_part_laws.specs.Surveys.{MissingUnreadBeside, held_at_beside}
use Rattle.pm_course_laws.specs.Restarts.{IsNoStore}
use Rattle.pm_course_laws.specs.FrameLives.{Means}
use Rattle.pm_course_laws.specs.FramesBeside.{IsFrameCourseBeside, goal_at_beside}

-- the words that an output's registers have stored: those that a restart gives them
abbrev pub stored_at_beside : Held → ℕ → List Happening → ℕ → rail.Held
stored_at_beside held passes happened output register = word_at (beside held passes happened).device.store (Out output register)

-- A course to wishes for words and voltages, which mean these wanted words, began while the host was idle, and this happened since, in which
-- nobody asked for a store.
pub record GoesOnBeside (held : Held) (passes : ℕ) (part : PartRegisters) (output : ℕ) (wanted : Wanted) (later before : List Happening) : Type 0 where
  pub words : Wanted
  pub voltages : Voltages
  pub tries : ℕ
  pub course : FrameCourse
  pub own : Bool
  pub life : IsLifeBeside held passes (later ++ before)
  pub here : output < held.config.count
  pub idle : is_busy (beside held passes before).host ≡ false
  pub means : Means held.config output words voltages wanted
  pub is_course : IsFrameCourseBeside held passes part (going_on (course_of output words tries) voltages) before course own later
  pub unstored : EachAsks IsNoStore held passes later before

-- Such a course writes nothing to its output but wanted words (`writes`). At each moment before the part first restarts, the output commands
-- what it did at an earlier one, or what is wanted, also if the part restarts later (`earlier`). Of a part that lacks VOUT_MIN or VOUT_MAX
-- its cell then holds the word that never cuts, and the host was told nothing of it. At each moment after a restart the output commands a
-- value between its start value and what is wanted (`between`), if the stored byte of OPERATION selects the register that the held one did,
-- and neither the stored words nor those that are to be held at the end are cut. If the stored word is cut, but the stored VOUT_MIN isn't
-- above the stored VOUT_MAX, it may be let go as far as the wanted limits (`let_go`).
pub record FrameCoursesKeepBetween : Type 0 where
  pub writes : (held : Held) (passes : ℕ) (part : PartRegisters) (output : ℕ) (wanted : Wanted) (later before : List Happening) →
      GoesOnBeside held passes part output wanted later before → EachAsks (MayWrite output (wants_of wanted)) held passes later before
  pub earlier : (held : Held) (passes : ℕ) (part : PartRegisters) (output : ℕ) (wanted : Wanted) (rest newer later before : List Happening) →
      GoesOnBeside held passes part output wanted (rest ++ (newer ++ later)) before → list_any restarts (newer ++ later) ≡ false →
      MissingUnreadBeside held passes part output before → HoldsMissing part held.config (beside held passes before).device.words output →
      IsStep (goal_at_beside held passes output wanted before)
      (commands_beside held passes (later ++ before) output) (commands_beside held passes ((newer ++ later) ++ before) output)
  pub between : (held : Held) (passes : ℕ) (part : PartRegisters) (output : ℕ) (wanted : Wanted) (rest later before : List Happening) →
      GoesOnBeside held passes part output wanted (rest ++ later) before → list_any restarts later ≡ true →
      selected_register (stored_at_beside held passes before output Operation)
      ≡ selected_register (held_at_beside held passes before output Operation) →
      is_cut_by (value_for held.config output) (stored_at_beside held passes before output) ≡ false →
      is_cut_by (value_for held.config output) (goal_of (held_at_beside held passes before output) (wants_of wanted)) ≡ false →
      LiesAmong (commands_by (value_for held.config output) (stored_at_beside held passes before output) ∷ goal_at_beside held passes output wanted before ∷ [])
      (commands_beside held passes (later ++ before) output)
  pub let_go : (held : Held) (passes : ℕ) (part : PartRegisters) (output : ℕ) (wanted : Wanted) (rest later before : List Happening) →
      GoesOnBeside held passes part output wanted (rest ++ later) before → list_any restarts later ≡ true →
      selected_register (stored_at_beside held passes before output Operation)
      ≡ selected_register (held_at_beside held passes before output Operation) →
      is_above (value_for held.config output (stored_at_beside held passes before output VoutMin))
      (value_for held.config output (stored_at_beside held passes before output VoutMax)) ≡ false →
      is_cut_by (value_for held.config output) (goal_of (held_at_beside held passes before output) (wants_of wanted)) ≡ false →
      LiesAmong (commands_by (value_for held.config output) (stored_at_beside held passes before output) ∷ goal_at_beside held passes output wanted before ∷
      start_let_go (value_for held.config output) (stored_at_beside held passes before output)
      (goal_of (held_at_beside held passes before output) (wants_of wanted)) (held_at_beside held passes before output Operation) ∷ [])
      (commands_beside held passes (later ++ before) output)
