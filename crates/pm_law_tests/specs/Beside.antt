-- A host beside a part as it is, as a caller of its laws has them.
use Rattle.std.specs.Prelude.{◌≡◌, ℕ, Bool, List, ◌++◌, None, Some}
use Rattle.pm_table.specs.declared.cell.Cell.TheVariants.{Out}
use Rattle.pm_table.specs.declared.reg.Reg.{Reg}
use Rattle.pm_model.specs.Settings.{word_at}
use Rattle.pm_device.specs.Held.{Held}
use Rattle.pm_host.specs.Marks.{marks}
use Rattle.pm_host.specs.Summary.{Summary}
use Rattle.pm_limits.specs.declared.output_limits.OutputLimits.{OutputLimits}
use Rattle.pm_limits.specs.declared.part_registers.PartRegisters.{PartRegisters}
use Rattle.pm_limits.specs.Bounds.{Bounds}
use Rattle.pm_limits.specs.Part.{all_registers}
use Rattle.pm_rail.specs.declared.wanted.Wanted.{Wanted}
use Rattle.pm_rail.specs.Course.{course_of}
use Rattle.pm_rail.specs.Registers.{wants_of}
use Rattle.pm_course.specs.declared.course_end.CourseEnd.TheVariants.{Reached}
use Rattle.pm_course.specs.declared.course_end.CourseNext.TheVariants.{Ended}
use Rattle.pm_course.specs.declared.frame_course.FrameCourse.{FrameCourse}
use Rattle.pm_course.specs.declared.voltages.Voltages.{Voltages}
use Rattle.pm_course.specs.FrameCourse.{SaysNext, going_on, last_end}
use Rattle.pm_course_laws.specs.FrameLives.{Means}
use Rattle.pm_course_laws.specs.FramesBeside.{BeginsBeside}
use Rattle.pm_world.specs.Setup.{setup_of}
use Rattle.pm_world.specs.State.{State}
use Rattle.pm_world.specs.Uncertainty.{Choice, Leaves, due_before, since_restart, witness_events, witness_start}
use Rattle.pm_part_laws.specs.Happenings.{Happening, IsLifeBeside, beside, entries_beside}

-- the part as it was when the host began, how many passes the host's jobs have at most, and what happened since
pub record PartLife : Type 0 where
  pub held : Held
  pub passes : ℕ
  pub happened : List Happening

abbrev pub both_in : PartLife → State
both_in life = beside life.held life.passes life.happened

-- what happened led to this host and this converter
pub record LedTo (life : PartLife) (host : Summary) (device : Held) : Type 0 where
  pub lived : IsLifeBeside life.held life.passes life.happened
  pub host_is : host ≡ (both_in life).host
  pub device_is : device ≡ (both_in life).device
  pub outputs : host.setup.outputs ≡ life.held.config.count
  pub config : device.config ≡ life.held.config

-- the named life of a world that leaves these words, and whose host was told just what this one was told since it started
abbrev pub IsLeft : PartLife → Choice → Type 0
IsLeft life chosen =
    let setup = setup_of life.held.config life.passes in
    let entries = since_restart (entries_beside life.held life.passes life.happened) in
    Leaves life.held.config life.passes entries chosen (witness_start life.held.config (due_before chosen (marks setup entries)))
    (witness_events setup chosen entries)

-- the same under a guard with these registers and limits, and the limits of one output
pub record GuardedLife : Type 0 where
  pub life : PartLife
  pub registers : PartRegisters
  pub limits : List OutputLimits
  pub bounds : Bounds

-- A course to wishes that says `Reached` of an output of a part with every register: the part holds each wanted word, if it didn't restart
-- since the course began.
abbrev pub ReachedIsHeldByPart : PartLife → Summary → Held → Type 0
ReachedIsHeldByPart life host device =
    (output : ℕ) (words wanted : Wanted) (voltages : Voltages) (tries : ℕ) (c is : FrameCourse) (own : Bool)
    (limits : OutputLimits) (register : Reg) (word : ℕ) (later before : List Happening) → life.happened ≡ later ++ before →
    Means life.held.config output words voltages wanted →
    BeginsBeside life.held life.passes all_registers (going_on (course_of output words tries) voltages) c own later before →
    last_end c.end ≡ None → SaysNext all_registers limits host c (Ended Reached) is → wants_of wanted register ≡ Some word →
    word_at device.words (Out output register) ≡ word
