-- A course to wanted words in a run in which the part restarts, as a caller of its law has it. Lists are newest first.
use Rattle.std.specs.Prelude.{◌≡◌, ◌<◌, ℕ, Bool, true, false, List, [], ◌∷◌, ◌++◌}
use Rattle.std.specs.List.{list_any}
use Rattle.pm_table.specs.declared.reg.Reg.TheVariants.{Operation}
use Rattle.pm_table.specs.Operation.{selected_register}
use Rattle.pm_device.specs.declared.config.Config.{Config}
use Rattle.pm_device.specs.Held.{value_for}
use Rattle.pm_host.specs.Refusals.{is_busy}
use Rattle.pm_limits.specs.declared.part_registers.PartRegisters.{PartRegisters}
use Rattle.pm_rail.specs.declared.course.Course.{Course}
use Rattle.pm_rail.specs.declared.wanted.Wanted.{Wanted}
use Rattle.pm_rail.specs.Course.{course_of}
use Rattle.pm_rail.specs.Plan.{commands_by, goal_of, is_cut_by}
use Rattle.pm_rail.specs.Registers.{wants_of}
use Rattle.pm_course.specs.declared.frame_course.FrameCourse.{FrameCourse}
use Rattle.pm_course.specs.declared.voltages.Voltages.{Voltages}
use Rattle.pm_course.specs.FrameCourse.{going_on}
use Rattle.pm_world.specs.declared.event.Event.{Event}
use Rattle.pm_world.specs.Across.{MayWrite, WritesWanted, stored_at}
use Rattle.pm_world.specs.Confirmed.{restarts_converter}
use Rattle.pm_world.specs.Courses.{IsCourse, goal_at}
use Rattle.pm_world.specs.Life.{now}
use Rattle.pm_world.specs.Limited.{commands}
use Rattle.pm_world.specs.Mixed.{LiesAmong}
use Rattle.pm_world.specs.Plans.{held_at}
use Rattle.pm_part_laws.specs.Happenings.{EachAsks, Happening, beside, restarts}
use Rattle.pm_part_laws.specs.OwnWords.{commands_beside as part_commands}
use Rattle.pm_part_laws.specs.Surveys.{held_at_beside as part_held}
use Rattle.pm_course_laws.specs.Restarts.{AsksNoStore, IsNoStore}
use Rattle.pm_course_laws.specs.Between.{stored_at_beside as part_stored}
use Rattle.pm_course_laws.specs.FrameLives.{IsFrameCourse, Means}
use Rattle.pm_course_laws.specs.FramesBeside.{IsFrameCourseBeside, goal_at_beside as part_goal}
use Rattle.pm_law_tests.specs.Beside.{PartLife}

-- At each moment of these events after a restart of the part, since a course began, the output commands a value between its start value and
-- what is wanted, where neither is cut and OPERATION selects the same register.
unfoldable pub LiesBetween : Config → ℕ → List Event → Type 0
LiesBetween config passes events = (part : PartRegisters) (output : ℕ) (wanted : Wanted) (tries : ℕ) (course : Course)
    (rest later before : List Event) → events ≡ (rest ++ later) ++ before → output < config.count →
    is_busy (now config passes before).host ≡ false →
    IsCourse config passes part (course_of output wanted tries) before course (rest ++ later) →
    AsksNoStore config passes (rest ++ later) before → list_any restarts_converter later ≡ true →
    selected_register (stored_at config passes before output Operation)
    ≡ selected_register (held_at config passes before output Operation) →
    is_cut_by (value_for config output) (stored_at config passes before output) ≡ false →
    is_cut_by (value_for config output) (goal_of (held_at config passes before output) (wants_of wanted)) ≡ false →
    LiesAmong (commands_by (value_for config output) (stored_at config passes before output) ∷
    goal_at config passes output wanted before ∷ []) (commands config passes (later ++ before) output)

-- A course to wishes that hands out frames writes nothing to its output but the words that the wishes have, however often the part
-- restarts, if nothing else is ordered of it, stored or restored.
unfoldable pub WritesWishes : Config → ℕ → List Event → Type 0
WritesWishes config passes events = (part : PartRegisters) (output : ℕ) (words wanted : Wanted) (voltages : Voltages) (tries : ℕ)
    (c : FrameCourse) (own : Bool) (later before : List Event) → events ≡ later ++ before → output < config.count →
    is_busy (now config passes before).host ≡ false → Means config output words voltages wanted →
    IsFrameCourse config passes part (going_on (course_of output words tries) voltages) before c own later →
    AsksNoStore config passes later before → WritesWanted config passes output (wants_of wanted) later before

-- the same beside a part as it is, of a course to wishes that hands out frames
unfoldable pub LiesBetweenBeside : PartLife → Type 0
LiesBetweenBeside life = (part : PartRegisters) (output : ℕ) (words wanted : Wanted) (voltages : Voltages) (tries : ℕ) (c : FrameCourse)
    (own : Bool) (rest later before : List Happening) → life.happened ≡ (rest ++ later) ++ before → output < life.held.config.count →
    is_busy (beside life.held life.passes before).host ≡ false → Means life.held.config output words voltages wanted →
    IsFrameCourseBeside life.held life.passes part (going_on (course_of output words tries) voltages) before c own (rest ++ later) →
    EachAsks IsNoStore life.held life.passes (rest ++ later) before → list_any restarts later ≡ true →
    selected_register (part_stored life.held life.passes before output Operation)
    ≡ selected_register (part_held life.held life.passes before output Operation) →
    is_cut_by (value_for life.held.config output) (part_stored life.held life.passes before output) ≡ false →
    is_cut_by (value_for life.held.config output) (goal_of (part_held life.held life.passes before output) (wants_of wanted)) ≡ false →
    LiesAmong (commands_by (value_for life.held.config output) (part_stored life.held life.passes before output) ∷
    part_goal life.held life.passes output wanted before ∷ []) (part_commands life.held life.passes (later ++ before) output)

unfoldable pub WritesWishesBeside : PartLife → Type 0
WritesWishesBeside life = (part : PartRegisters) (output : ℕ) (words wanted : Wanted) (voltages : Voltages) (tries : ℕ) (c : FrameCourse)
    (own : Bool) (later before : List Happening) → life.happened ≡ later ++ before → output < life.held.config.count →
    is_busy (beside life.held life.passes before).host ≡ false → Means life.held.config output words voltages wanted →
    IsFrameCourseBeside life.held life.passes part (going_on (course_of output words tries) voltages) before c own later →
    EachAsks IsNoStore life.held life.passes later before → EachAsks (MayWrite output (wants_of wanted)) life.held life.passes later before
