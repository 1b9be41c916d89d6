-- Which way a course that hands out frames goes, also where the converter restarts: this project's own choice. Lists are newest first.
use Rattle.std.specs.Prelude.{◌<◌, ℕ, Bool, List, ◌++◌, Some}
use Rattle.pm_device.specs.declared.config.Config.{Config}
use Rattle.pm_limits.specs.declared.part_registers.PartRegisters.{PartRegisters}
use Rattle.pm_rail.specs.declared.wanted.Wanted.{Wanted}
use Rattle.pm_rail.specs.Course.{course_of}
use Rattle.pm_course.specs.declared.frame_course.FrameCourse.{FrameCourse}
use Rattle.pm_course.specs.declared.voltages.Voltages.{Voltages}
use Rattle.pm_course.specs.FrameCourse.{going_on, with_plan}
use Rattle.pm_world.specs.declared.event.Event.{Event}
use Rattle.pm_world.specs.Courses.{IsCourse}
use Rattle.pm_world.specs.Honest.{IsSpelled}
use Rattle.pm_world.specs.Lived.{IsLived}
use Rattle.pm_course_laws.specs.FrameLives.{IsFrameCourse, Means}

-- In each life a course to wishes goes the way of pm_rail to the words that the wishes have in the output's format, whatever restarts.
abbrev pub FrameCoursesGoTheirWay : Type 0
FrameCoursesGoTheirWay = (config : Config) (passes : ℕ) (part : PartRegisters) (output : ℕ) (words wanted : Wanted) (voltages : Voltages)
    (tries : ℕ) (c : FrameCourse) (own : Bool) (later before : List Event) →
    IsSpelled config → IsLived config passes (later ++ before) → output < config.count → Means config output words voltages wanted →
    IsFrameCourse config passes part (going_on (course_of output words tries) voltages) before c own later →
    IsCourse config passes part (course_of output wanted tries) before (with_plan c.course (Some wanted)) later
