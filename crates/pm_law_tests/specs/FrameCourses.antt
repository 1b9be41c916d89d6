-- What a course that hands out frames is worth for a caller, of the events of a run that end with those of the course.
use Rattle.std.specs.Prelude.{◌≡◌, ℕ, Bool, true, false, List, ◌++◌, Some}
use Rattle.pm_table.specs.Operation.{has_on}
use Rattle.pm_device.specs.declared.config.Config.{Config}
use Rattle.pm_device.specs.Held.{shape_for}
use Rattle.pm_limits.specs.declared.part_registers.PartRegisters.{PartRegisters}
use Rattle.pm_limits.specs.Part.{all_registers}
use Rattle.pm_rail.specs.declared.wanted.Wanted.{Wanted}
use Rattle.pm_rail.specs.Course.{course_of}
use Rattle.pm_course.specs.declared.course_end.Refusal.{Refusal}
use Rattle.pm_course.specs.declared.frame_course.FrameCourse.{FrameCourse}
use Rattle.pm_course.specs.declared.voltages.Voltages.{Voltages}
use Rattle.pm_course.specs.FrameCourse.{going_on, to_byte, to_survey}
use Rattle.pm_course.specs.Wishes.{meant_faults}
use Rattle.pm_course_laws.specs.FrameLives.{BeginsFrames, KeepsFrameCourses, KeepsFrameCoursesOff, KeepsFrameCoursesOn, Means, OrdersNothing}
use Rattle.pm_world.specs.declared.event.Event.{Event}

-- a course to wishes that have words in the output's format
abbrev pub WishesAreKept : Config → ℕ → List Event → Type 0
WishesAreKept config passes events = (part : PartRegisters) (output : ℕ) (words wanted : Wanted) (voltages : Voltages) (tries : ℕ)
    (c : FrameCourse) (own : Bool) (later before : List Event) → events ≡ later ++ before → Means config output words voltages wanted →
    BeginsFrames config passes part (going_on (course_of output words tries) voltages) c own later before →
    KeepsFrameCourses config passes part output words wanted voltages tries c own later before

-- one to wishes of which one has no word in it
abbrev pub UnformedOrderNothing : Config → ℕ → List Event → Type 0
UnformedOrderNothing config passes events = (part : PartRegisters) (output : ℕ) (words : Wanted) (voltages : Voltages) (tries : ℕ)
    (c : FrameCourse) (own : Bool) (later before : List Event) (refusal : Refusal) → events ≡ later ++ before →
    meant_faults (shape_for config output) voltages ≡ Some refusal →
    BeginsFrames config passes part (going_on (course_of output words tries) voltages) c own later before →
    OrdersNothing config passes output later before

-- one to nothing
abbrev pub SurveysOrderNothing : Config → ℕ → List Event → Type 0
SurveysOrderNothing config passes events = (part : PartRegisters) (output tries : ℕ) (c : FrameCourse) (own : Bool)
    (later before : List Event) → events ≡ later ++ before →
    BeginsFrames config passes part (to_survey output tries) c own later before → OrdersNothing config passes output later before

-- one to a byte that turns the output off
abbrev pub OffIsKept : Config → ℕ → List Event → Type 0
OffIsKept config passes events = (part : PartRegisters) (output byte tries : ℕ) (c : FrameCourse) (own : Bool)
    (later before : List Event) → events ≡ later ++ before → has_on byte ≡ false →
    BeginsFrames config passes part (to_byte output byte tries) c own later before →
    KeepsFrameCoursesOff config passes part output byte tries c own later before

-- one to a byte that leaves the output on, of a part with every register
abbrev pub OnIsKept : Config → ℕ → List Event → Type 0
OnIsKept config passes events = (output byte tries : ℕ) (c : FrameCourse) (own : Bool) (later before : List Event) →
    events ≡ later ++ before → has_on byte ≡ true →
    BeginsFrames config passes all_registers (to_byte output byte tries) c own later before →
    KeepsFrameCoursesOn config passes all_registers output byte tries c own later before
