-- Which word an output is to command once a course has ended. This project's own choice.
use Rattle.std.specs.Prelude.{◌≡◌, ℕ, ℤ, ◌&&◌, nat_lt, if◌then◌else◌, Bool, false, Option, Some, None, is_none, is_some}
use Rattle.std.specs.Prelude.{IfSome, IsSomeAnd}
use Rattle.std.specs.Option.{option_map_or}
use Rattle.pm_num.specs.AnyFormat.{Shape, shape_rank, shape_value}
use Rattle.pm_num.specs.NearestWord.{nearest_word}
use Rattle.pm_num.specs.Ratio.{micros}
use Rattle.pm_table.specs.declared.cell.Cell.TheVariants.{Out}
use Rattle.pm_table.specs.declared.reg.Reg.{Reg}
use Rattle.pm_table.specs.Cell.{same_register}
use Rattle.pm_table.specs.Operation.{has_on, selected_register}
use Rattle.pm_host.specs.declared.fault.HostFault.TheVariants.{UnknownOutput}
use Rattle.pm_host.specs.FaultWords.{host_fault_number}
use Rattle.pm_host.specs.Image.{host_of}
use Rattle.pm_host.specs.Refusals.{range_fault}
use Rattle.pm_host.specs.Summary.{Summary, format_at, possible_at}
use Rattle.pm_limits.specs.Band.{each_selection, is_selected}
use Rattle.pm_rail.specs.Known.{sole}
use Rattle.pm_rail.specs.Registers.{wants_of}
use Rattle.pm_rail.specs.Survey.{wanted_in}
use Rattle.pm_course.specs.declared.frame_course.FrameCourse.{FrameCourse}
use Rattle.pm_course.specs.Wishes.{voltage_of}
use Rattle.pm_memory.specs.declared.guard_image.GuardImage.{GuardImage}
use Rattle.pm_memory.specs.Delivery.{idle_host}
use Rattle.pm_memory.specs.Numbers.{accepted, no_cell, no_course, no_goal, no_host}

-- a register that an output can command by, which some byte of OPERATION selects: VOUT_COMMAND or a margin
abbrev pub is_commanding : Reg → Bool
is_commanding register = is_selected each_selection register

-- the word that a register is known to hold that a byte selects which leaves the output on
abbrev pub selected_goal : Summary → FrameCourse → ℕ → Reg → Option ℕ
selected_goal s c byte register = if has_on byte && same_register (selected_register byte) register
    then sole (possible_at s (Out c.course.survey.output register)) else None

-- a wish's word: that nearest to a voltage, where the format has one; otherwise the word that is wanted as such
abbrev pub has_wanted : Option Shape → Option ℤ → Option ℕ → Bool
has_wanted shape None word = is_some word
has_wanted shape (Some x) word = option_map_or (λ s. is_none (range_fault s x)) shape false

abbrev pub IsWanted : Option Shape → Option ℤ → Option ℕ → Option ℕ → Type 0
IsWanted shape None word goal = goal ≡ word
IsWanted shape (Some x) word goal = IfSome goal
    (λ w. IsSomeAnd shape (λ s. nearest_word (shape_value s) (shape_rank s) (micros x) ≡ Some w))

-- the goal of a course, to a byte or to words and voltages, of a register
abbrev pub has_goal_by : Summary → FrameCourse → Option ℕ → Reg → Bool
has_goal_by s c (Some byte) register = is_some (selected_goal s c byte register)
has_goal_by s c None register = has_wanted (format_at s c.course.survey.output) (voltage_of c.voltages register)
    (wants_of (wanted_in c.course.survey.plan) register)

abbrev pub has_goal : Summary → FrameCourse → Reg → Bool
has_goal s c register = is_commanding register && has_goal_by s c c.course.byte register

abbrev pub IsGoalBy : Summary → FrameCourse → Option ℕ → Reg → Option ℕ → Type 0
IsGoalBy s c (Some byte) register goal = goal ≡ selected_goal s c byte register
IsGoalBy s c None register goal = IsWanted (format_at s c.course.survey.output) (voltage_of c.voltages register)
    (wants_of (wanted_in c.course.survey.plan) register) goal

-- the number that is answered: E0h, E9h, H4, E1h, EDh
abbrev pub goal_register_number : Summary → FrameCourse → Option Reg → ℕ
goal_register_number s c None = no_cell
goal_register_number s c (Some register) = if has_goal s c register then accepted else no_goal

abbrev pub course_number : GuardImage → Option FrameCourse → Option Reg → ℕ
course_number host None register = no_course
course_number host (Some c) register = if nat_lt c.course.survey.output host.host.state.outputs
    then goal_register_number (idle_host host) c register else host_fault_number UnknownOutput

abbrev pub goal_number : GuardImage → Option FrameCourse → Option Reg → ℕ
goal_number host c register = if is_some (host_of host.host) then course_number host c register else no_host
