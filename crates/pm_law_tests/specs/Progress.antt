-- Where a course that hands out frames comes to for a caller, of the events of a run that end with those of the course.
use Rattle.std.specs.Prelude.{◌≡◌, ◌≤◌, ◌<◌, ◌++◌, ℕ, Bool, false, true, List, None}
use Rattle.pm_table.specs.declared.cell.Cell.TheVariants.{Out, Protect}
use Rattle.pm_table.specs.declared.reg.Reg.TheVariants.{Operation}
use Rattle.pm_table.specs.Cell.{cell_code}
use Rattle.pm_table.specs.Protection.{is_allowed}
use Rattle.pm_model.specs.Settings.{word_at}
use Rattle.pm_device.specs.declared.config.Config.{Config}
use Rattle.pm_host.specs.Refusals.{is_busy}
use Rattle.pm_host.specs.Summary.{Summary}
use Rattle.pm_limits.specs.declared.output_limits.OutputLimits.{OutputLimits}
use Rattle.pm_limits.specs.declared.part_registers.PartRegisters.{PartRegisters}
use Rattle.pm_limits.specs.Part.{all_registers}
use Rattle.pm_rail.specs.declared.wanted.Wanted.{Wanted}
use Rattle.pm_rail.specs.Course.{course_of}
use Rattle.pm_rail.specs.Registers.{wants_of}
use Rattle.pm_course.specs.declared.course_end.CourseEnd.TheVariants.{Reached}
use Rattle.pm_course.specs.declared.course_end.CourseNext.TheVariants.{Ended}
use Rattle.pm_course.specs.declared.frame_course.FrameCourse.{FrameCourse}
use Rattle.pm_course.specs.declared.voltages.Voltages.{Voltages}
use Rattle.pm_course.specs.FrameCourse.{SaysNext, going_on, last_end, to_byte, to_survey}
use Rattle.pm_course.specs.Wishes.{missing_in}
use Rattle.pm_world.specs.declared.event.Event.{Event}
use Rattle.pm_world.specs.Bands.{HoldsMissing}
use Rattle.pm_world.specs.Confirmed.{restarts_converter}
use Rattle.pm_world.specs.Life.{now}
use Rattle.pm_world.specs.Surveys.{AreRead, MissingUnread}
use Rattle.std.specs.List.{list_any}
use Rattle.pm_course_laws.specs.Chains.{FitsPart, byte_tries, tries_for}
use Rattle.pm_course_laws.specs.FrameLives.{IsFrameCourse, Means}
use Rattle.pm_course_laws.specs.Progress.{GetsRead, GetsSwitched, GetsThere, IsUndisturbed, pair_at}
use Rattle.pm_course_laws.specs.ProgressBeside.{IsUndisturbedBeside, pair_beside}
use Rattle.pm_course_laws.specs.Reached.{HoldsWanted}
use Rattle.pm_course_laws.specs.FramesBeside.{IsFrameCourseBeside}
use Rattle.pm_course_laws.specs.ReachedBeside.{HoldsWantedBeside}
use Rattle.pm_part_laws.specs.Happenings.{Happening, beside, restarts}
use Rattle.pm_part_laws.specs.Surveys.{AreRead as PartAreRead, MissingUnreadBeside as PartUnread}
use Rattle.pm_law_tests.specs.Beside.{PartLife, both_in}
use Rattle.pm_limits.specs.Guard.{limits_at}

-- a course to wishes of a part with every register, with 28 tries
abbrev pub WishesAreReached : Config → ℕ → List Event → Type 0
WishesAreReached config passes events = (limits : List OutputLimits) (output : ℕ) (words wanted : Wanted) (voltages : Voltages)
    (c : FrameCourse) (own : Bool) (n : ℕ) (later before : List Event) → events ≡ later ++ before → output < config.count →
    Means config output words voltages wanted → is_busy (now config passes before).host ≡ false →
    IsUndisturbed config passes all_registers limits (going_on (course_of output words 28) voltages) before c own n later →
    GetsThere output wanted
    (tries_for (limits_at (pair_at all_registers limits config passes before).guard output) (now config passes before).device output (wants_of wanted))
    (pair_at all_registers limits config passes before) (pair_at all_registers limits config passes (later ++ before)) c own n

-- one of a part that has what is wanted, from the middle on, with 28 tries left
abbrev pub WishesAreReachedOnce : Config → ℕ → List Event → Type 0
WishesAreReachedOnce config passes events = (part : PartRegisters) (limits : List OutputLimits) (output : ℕ) (words wanted : Wanted)
    (voltages : Voltages) (tries : ℕ) (begun c : FrameCourse) (own mine : Bool) (n : ℕ) (later earlier before : List Event) →
    events ≡ later ++ (earlier ++ before) → output < config.count → Means config output words voltages wanted →
    IsFrameCourse config passes part (going_on (course_of output words tries) voltages) before begun mine earlier →
    is_busy (now config passes (earlier ++ before)).host ≡ false → begun.end ≡ None → begun.course.twice ≡ None →
    28 ≤ begun.course.survey.left → AreRead config passes begun.course.survey earlier before → list_any restarts_converter earlier ≡ false →
    missing_in part words voltages ≡ None → FitsPart part (now config passes (earlier ++ before)).device output (wants_of wanted) →
    IsUndisturbed config passes part limits begun (earlier ++ before) c own n later →
    GetsThere output wanted 28 (pair_at part limits config passes (earlier ++ before))
    (pair_at part limits config passes (later ++ (earlier ++ before))) c own n

-- one that says Reached, where the converter didn't restart since the first of these answers of its last survey; and one beside a part
abbrev pub ReachedIsHeld : Config → ℕ → List Event → Type 0
ReachedIsHeld config passes events = (part : PartRegisters) (limits : OutputLimits) (output : ℕ) (words wanted : Wanted) (voltages : Voltages)
    (tries : ℕ) (c is : FrameCourse) (own : Bool) (newer older before : List Event) → events ≡ newer ++ (older ++ before) →
    output < config.count → Means config output words voltages wanted →
    IsFrameCourse config passes part (going_on (course_of output words tries) voltages) before c own (newer ++ older) →
    AreRead config passes c.course.survey newer (older ++ before) → list_any restarts_converter newer ≡ false →
    MissingUnread config passes part output events → HoldsMissing part config (now config passes events).device.words output →
    last_end c.end ≡ None → SaysNext part limits (now config passes events).host c (Ended Reached) is →
    HoldsWanted config passes part output wanted events

abbrev pub ReachedIsHeldBeside : PartLife → Summary → Type 0
ReachedIsHeldBeside life host = (part : PartRegisters) (limits : OutputLimits) (output : ℕ) (words wanted : Wanted) (voltages : Voltages)
    (tries : ℕ) (c is : FrameCourse) (own : Bool) (newer older before : List Happening) → life.happened ≡ newer ++ (older ++ before) →
    output < life.held.config.count → Means life.held.config output words voltages wanted →
    IsFrameCourseBeside life.held life.passes part (going_on (course_of output words tries) voltages) before c own (newer ++ older) →
    PartAreRead life.held life.passes c.course.survey newer (older ++ before) → list_any restarts newer ≡ false →
    PartUnread life.held life.passes part output life.happened →
    HoldsMissing part life.held.config (both_in life).device.words output →
    last_end c.end ≡ None → SaysNext part limits host c (Ended Reached) is →
    HoldsWantedBeside life.held life.passes part output wanted life.happened

-- a course to a byte of OPERATION, of a part with every register, with 20 tries
abbrev pub BytesAreReached : Config → ℕ → List Event → Type 0
BytesAreReached config passes events = (limits : List OutputLimits) (output byte : ℕ) (c : FrameCourse) (own : Bool) (n : ℕ)
    (later before : List Event) → events ≡ later ++ before → output < config.count → is_busy (now config passes before).host ≡ false →
    is_allowed (word_at (now config passes before).device.words Protect) (cell_code (Out output Operation)) ≡ true →
    IsUndisturbed config passes all_registers limits (to_byte output byte 20) before c own n later →
    GetsSwitched output byte (byte_tries (now config passes before).device output byte) (pair_at all_registers limits config passes before)
    (pair_at all_registers limits config passes (later ++ before)) c own n

-- a survey of a part with every register, with ten tries
abbrev pub SurveysAreReached : Config → ℕ → List Event → Type 0
SurveysAreReached config passes events = (limits : List OutputLimits) (output : ℕ) (c : FrameCourse) (own : Bool) (n : ℕ)
    (later before : List Event) → events ≡ later ++ before → output < config.count → is_busy (now config passes before).host ≡ false →
    IsUndisturbed config passes all_registers limits (to_survey output 10) before c own n later →
    GetsRead 10 (pair_at all_registers limits config passes before) (pair_at all_registers limits config passes (later ++ before)) c own n

-- courses of a part with every register, as it is, to wishes with 28 tries, to a byte of OPERATION with 20, and surveys with ten
abbrev pub WishesAreReachedBeside : PartLife → Type 0
WishesAreReachedBeside life = (limits : List OutputLimits) (output : ℕ) (words wanted : Wanted) (voltages : Voltages) (c : FrameCourse) (own : Bool)
    (n : ℕ) (later before : List Happening) → life.happened ≡ later ++ before → output < life.held.config.count →
    Means life.held.config output words voltages wanted → is_busy (beside life.held life.passes before).host ≡ false →
    IsUndisturbedBeside life.held life.passes all_registers limits (going_on (course_of output words 28) voltages) before c own n later →
    GetsThere output wanted (tries_for (limits_at (pair_beside all_registers limits life.held life.passes before).guard output)
    (beside life.held life.passes before).device output (wants_of wanted))
    (pair_beside all_registers limits life.held life.passes before) (pair_beside all_registers limits life.held life.passes (later ++ before)) c own n

abbrev pub BytesAreReachedBeside : PartLife → Type 0
BytesAreReachedBeside life = (limits : List OutputLimits) (output byte : ℕ) (c : FrameCourse) (own : Bool) (n : ℕ)
    (later before : List Happening) → life.happened ≡ later ++ before → output < life.held.config.count →
    is_busy (beside life.held life.passes before).host ≡ false →
    is_allowed (word_at (beside life.held life.passes before).device.words Protect) (cell_code (Out output Operation)) ≡ true →
    IsUndisturbedBeside life.held life.passes all_registers limits (to_byte output byte 20) before c own n later →
    GetsSwitched output byte (byte_tries (beside life.held life.passes before).device output byte)
    (pair_beside all_registers limits life.held life.passes before) (pair_beside all_registers limits life.held life.passes (later ++ before)) c own n

abbrev pub SurveysAreReachedBeside : PartLife → Type 0
SurveysAreReachedBeside life = (limits : List OutputLimits) (output : ℕ) (c : FrameCourse) (own : Bool) (n : ℕ)
    (later before : List Happening) → life.happened ≡ later ++ before → output < life.held.config.count →
    is_busy (beside life.held life.passes before).host ≡ false →
    IsUndisturbedBeside life.held life.passes all_registers limits (to_survey output 10) before c own n later →
    GetsRead 10 (pair_beside all_registers limits life.held life.passes before)
    (pair_beside all_registers limits life.held life.passes (later ++ before)) c own n
