-- What a course that hands out frames comes to beside a part as it is, while nothing disturbs its frames and anybody reads the part between
-- them: this project's own choice. Lists are newest first.
use Rattle.std.specs.Prelude.{◌≡◌, ◌<◌, ◌≤◌, ◌+◌, ℕ, Bool, true, false, List, [], ◌∷◌, ◌++◌, Some, None}
use Rattle.pm_table.specs.declared.cell.Cell.TheVariants.{Out, Protect}
use Rattle.pm_table.specs.declared.reg.Reg.{Reg}
use Rattle.pm_table.specs.declared.reg.Reg.TheVariants.{Operation}
use Rattle.pm_table.specs.Cell.{cell_code}
use Rattle.pm_table.specs.Operation.{has_on, selected_register}
use Rattle.pm_table.specs.Protection.{is_allowed}
use Rattle.pm_frame.specs.Layout.{is_read_message}
use Rattle.pm_model.specs.Settings.{word_at}
use Rattle.pm_device.specs.declared.converter.Ending.{Ending}
use Rattle.pm_device.specs.Held.{Held}
use Rattle.pm_host.specs.declared.job.Job.{Job as Asked}
use Rattle.pm_host.specs.declared.stage.Stage.{Stage}
use Rattle.pm_host.specs.Refusals.{is_busy}
use Rattle.pm_host.specs.Summary.{stage_message, step_of}
use Rattle.pm_host.specs.Transcript.{Entry, Finished}
use Rattle.pm_limits.specs.declared.part_registers.PartRegisters.{PartRegisters}
use Rattle.pm_limits.specs.declared.output_limits.OutputLimits.{OutputLimits}
use Rattle.pm_limits.specs.Guard.{limits_at}
use Rattle.pm_limits.specs.Part.{has_register}
use Rattle.pm_rail.specs.declared.survey.Survey.{Survey}
use Rattle.pm_rail.specs.declared.wanted.Wanted.{Wanted}
use Rattle.pm_rail.specs.Course.{course_of}
use Rattle.pm_rail.specs.Registers.{wants_of}
use Rattle.pm_rail.specs.Survey.{has_read}
use Rattle.pm_course.specs.declared.course_end.CourseNext.TheVariants.{Job}
use Rattle.pm_course.specs.declared.frame_course.FrameCourse.{FrameCourse}
use Rattle.pm_course.specs.declared.voltages.Voltages.{Voltages}
use Rattle.pm_course.specs.FrameCourse.{SaysNext, going_on, last_end, to_byte, to_survey}
use Rattle.pm_course.specs.Heard.{heard_by}
use Rattle.pm_course.specs.Surprise.{surprises}
use Rattle.pm_course.specs.Wishes.{missing_in}
use Rattle.pm_world.specs.declared.event.Arrival.TheVariants.{Whole}
use Rattle.pm_world.specs.declared.event.Back.TheVariants as back
use Rattle.pm_world.specs.declared.event.Event.{Event}
use Rattle.pm_world.specs.declared.event.Event.TheVariants.{Deliver, Exchange, Finish}
use Rattle.pm_world.specs.Job.{asked_by}
use Rattle.pm_world.specs.State.{share_of}
use Rattle.pm_part_laws.specs.Answers.{restarted_since_beside}
use Rattle.pm_part_laws.specs.Happenings.{Happening, Happens, Hears, IsLifeBeside, beside}
use Rattle.pm_course_laws.specs.Chains.{FitsPart, Pair, byte_tries, tries_for, output_words_of}
use Rattle.pm_course_laws.specs.FrameLives.{Means, goes_on}
use Rattle.pm_course_laws.specs.FramesBeside.{IsFrameCourseBeside}
use Rattle.pm_course_laws.specs.Progress.{GetsRead, GetsSwitched, GetsThere}

-- a guard and the part at a moment
abbrev pub pair_beside : PartRegisters → List OutputLimits → Held → ℕ → List Happening → Pair
pair_beside part limits held passes happened = record {
  guard = record { host = (beside held passes happened).host; limits = limits; registers = part };
  held = (beside held passes happened).device;
}

-- How a course stands that nothing disturbs, whether its job is open, and how many jobs it began: as `IsUndisturbed` says of a life. Bytes
-- that are heard and are no job's leave it as it is (`looks`), between its frames and while its job is open.
pub data IsUndisturbedBeside (held : Held) (passes : ℕ) (part : PartRegisters) (limits : List OutputLimits) (begun : FrameCourse)
    (before : List Happening) : FrameCourse → Bool → ℕ → List Happening → Type 0 where
  begins : IsUndisturbedBeside held passes part limits begun before begun false 0 []
  asks : (c is : FrameCourse) (n : ℕ) (later : List Happening) (event : Event) (job : Asked) →
      IsUndisturbedBeside held passes part limits begun before c false n later →
      SaysNext part (limits_at (pair_beside part limits held passes (later ++ before)).guard c.course.survey.output)
      (beside held passes (later ++ before)).host c (Job job) is → asked_by event ≡ Some job →
      IsUndisturbedBeside held passes part limits begun before is true (n + 1) (Happens event ∷ later)
  writes : (c : FrameCourse) (n : ℕ) (later : List Happening) (stage : Stage) →
      IsUndisturbedBeside held passes part limits begun before c true n later →
      (beside held passes (Happens (Deliver Whole) ∷ later ++ before)).host.stage ≡ Some stage → is_read_message (stage_message stage) ≡ false →
      IsUndisturbedBeside held passes part limits begun before
      (heard_by c (beside held passes (Happens (Deliver Whole) ∷ later ++ before)).host.setup.addr stage (Finished true)
      (surprises (beside held passes (Happens (Deliver Whole) ∷ later ++ before)).host stage (Finished true))
      (step_of (beside held passes (Happens (Deliver Whole) ∷ later ++ before)).host (Finished true)))
      (goes_on (step_of (beside held passes (Happens (Deliver Whole) ∷ later ++ before)).host (Finished true))) n
      (Happens (Finish true) ∷ Happens (Deliver Whole) ∷ later)
  reads : (c : FrameCourse) (n : ℕ) (later : List Happening) (stage : Stage) (entry : Entry) →
      IsUndisturbedBeside held passes part limits begun before c true n later →
      (beside held passes (later ++ before)).host.stage ≡ Some stage → is_read_message (stage_message stage) ≡ true →
      (share_of (beside held passes (later ++ before)) (Exchange Whole back.Whole)).told ≡ Some entry →
      IsUndisturbedBeside held passes part limits begun before
      (heard_by c (beside held passes (later ++ before)).host.setup.addr stage entry
      (surprises (beside held passes (later ++ before)).host stage entry) (step_of (beside held passes (later ++ before)).host entry))
      (goes_on (step_of (beside held passes (later ++ before)).host entry)) n (Happens (Exchange Whole back.Whole) ∷ later)
  looks : (c : FrameCourse) (own : Bool) (n : ℕ) (later : List Happening) (bytes : List ℕ) (ending : Ending) →
      IsUndisturbedBeside held passes part limits begun before c own n later →
      IsUndisturbedBeside held passes part limits begun before c own n (Hears bytes ending ∷ later)

-- The part didn't restart since the host's last good answer for each cell that a survey counts as read.
pub record ReadsStandBeside (held : Held) (passes : ℕ) (v : Survey) (happened : List Happening) : Type 0 where
  pub registers : (register : Reg) → has_read v.read register ≡ true →
      restarted_since_beside held passes (Out v.output register) happened ≡ false
  pub protect : v.read.protect ≡ true → restarted_since_beside held passes Protect happened ≡ false

-- Beside any part, what holds in each life: a course to wishes gets there as it begins (`begins`) and from the middle (`goes_on`), one to a
-- byte of OPERATION (`switches`), and a survey (`surveys`).
pub record FrameCoursesGetThereBeside : Type 0 where
  pub begins : (held : Held) (passes : ℕ) (part : PartRegisters) (limits : List OutputLimits) (output : ℕ) (words wanted : Wanted)
      (voltages : Voltages) (tries : ℕ) (c : FrameCourse) (own : Bool) (n : ℕ) (later before : List Happening) →
      IsLifeBeside held passes (later ++ before) → output < held.config.count → Means held.config output words voltages wanted →
      is_busy (beside held passes before).host ≡ false → missing_in part words voltages ≡ None →
      FitsPart part (beside held passes before).device output (wants_of wanted) →
      tries_for (limits_at (pair_beside part limits held passes before).guard output) (beside held passes before).device output (wants_of wanted) ≤ tries →
      IsUndisturbedBeside held passes part limits (going_on (course_of output words tries) voltages) before c own n later →
      GetsThere output wanted
      (tries_for (limits_at (pair_beside part limits held passes before).guard output) (beside held passes before).device output (wants_of wanted))
      (pair_beside part limits held passes before) (pair_beside part limits held passes (later ++ before)) c own n
  pub goes_on : (held : Held) (passes : ℕ) (part : PartRegisters) (limits : List OutputLimits) (output : ℕ) (words wanted : Wanted)
      (voltages : Voltages) (tries : ℕ) (begun c : FrameCourse) (own mine : Bool) (n : ℕ) (later earlier before : List Happening) →
      IsLifeBeside held passes (later ++ (earlier ++ before)) → output < held.config.count → Means held.config output words voltages wanted →
      IsFrameCourseBeside held passes part (going_on (course_of output words tries) voltages) before begun mine earlier →
      is_busy (beside held passes (earlier ++ before)).host ≡ false → last_end begun.end ≡ None → begun.course.twice ≡ None →
      28 ≤ begun.course.survey.left → ReadsStandBeside held passes begun.course.survey (earlier ++ before) →
      missing_in part words voltages ≡ None → FitsPart part (beside held passes (earlier ++ before)).device output (wants_of wanted) →
      IsUndisturbedBeside held passes part limits begun (earlier ++ before) c own n later →
      GetsThere output wanted 28 (pair_beside part limits held passes (earlier ++ before))
      (pair_beside part limits held passes (later ++ (earlier ++ before))) c own n
  pub switches : (held : Held) (passes : ℕ) (part : PartRegisters) (limits : List OutputLimits) (output byte tries : ℕ) (c : FrameCourse)
      (own : Bool) (n : ℕ) (later before : List Happening) → IsLifeBeside held passes (later ++ before) → output < held.config.count →
      is_busy (beside held passes before).host ≡ false → (has_on byte ≡ true → has_register part (selected_register byte) ≡ true) →
      is_allowed (word_at (beside held passes before).device.words Protect) (cell_code (Out output Operation)) ≡ true →
      byte_tries (beside held passes before).device output byte ≤ tries →
      IsUndisturbedBeside held passes part limits (to_byte output byte tries) before c own n later →
      GetsSwitched output byte (byte_tries (beside held passes before).device output byte) (pair_beside part limits held passes before)
      (pair_beside part limits held passes (later ++ before)) c own n
  pub surveys : (held : Held) (passes : ℕ) (part : PartRegisters) (limits : List OutputLimits) (output tries : ℕ) (c : FrameCourse)
      (own : Bool) (n : ℕ) (later before : List Happening) → IsLifeBeside held passes (later ++ before) → output < held.config.count →
      is_busy (beside held passes before).host ≡ false →
      has_register part (selected_register (output_words_of (beside held passes before).device output Operation)) ≡ true → 10 ≤ tries →
      IsUndisturbedBeside held passes part limits (to_survey output tries) before c own n later →
      GetsRead 10 (pair_beside part limits held passes before) (pair_beside part limits held passes (later ++ before)) c own n
