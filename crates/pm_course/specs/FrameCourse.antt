-- What a course of frames says to do next: what the way of pm_rail says, with the words that its wishes have at that moment,
-- unless it ends earlier. This project's own choice.
use Rattle.std.specs.Prelude.{◌≡◌, ℕ, ℤ, Bool, true, false, not, ◌&&◌, ◌||◌, if◌then◌else◌, Option, Some, None, is_some}
use Rattle.std.specs.Prelude.{Result, Ok, Err}
use Rattle.pm_num.specs.AnyFormat.{Shape}
use Rattle.pm_table.specs.declared.cell.Cell.{Cell}
use Rattle.pm_table.specs.declared.cell.Cell.TheVariants.{Out, Protect}
use Rattle.pm_table.specs.declared.reg.Reg.{Reg}
use Rattle.pm_table.specs.declared.reg.Reg.TheVariants.{Operation}
use Rattle.pm_table.specs.Cell.{cell_accepts, register_code}
use Rattle.pm_table.specs.Operation.{has_on, selected_register}
use Rattle.pm_table.specs.Protection.{is_allowed}
use Rattle.pm_table.specs.Rules.{rule}
use Rattle.pm_host.specs.declared.job.Job.{Job as Asked}
use Rattle.pm_host.specs.declared.job.Job.TheVariants.{Order, Check}
use Rattle.pm_host.specs.Refusals.{is_busy}
use Rattle.pm_host.specs.Summary.{Summary, format_at, possible_at}
use Rattle.pm_limits.specs.declared.part_registers.PartRegisters.{PartRegisters}
use Rattle.pm_limits.specs.declared.output_limits.OutputLimits.{OutputLimits}
use Rattle.pm_rail.specs.declared.course.Course.{Course}
use Rattle.pm_rail.specs.declared.fault.PlanFault.TheVariants.{Protected}
use Rattle.pm_rail.specs.declared.next.Next.{Next}
use Rattle.pm_rail.specs.declared.next.Next.TheVariants as way
use Rattle.pm_rail.specs.declared.wanted.Wanted.{Wanted}
use Rattle.pm_rail.specs.Course.{after_next, course_of, is_order, next_of, power_course_of, survey_course_of}
use Rattle.pm_rail.specs.Known.{known_word, sole}
use Rattle.pm_rail.specs.Survey.{has_read, wanted_in}
use Rattle.pm_course.specs.declared.course_end.CourseEnd.{CourseEnd}
use Rattle.pm_course.specs.declared.course_end.CourseEnd.TheVariants.{Refused, OtherSource}
use Rattle.pm_course.specs.declared.course_end.CourseNext.{CourseNext}
use Rattle.pm_course.specs.declared.course_end.CourseNext.TheVariants.{Job, Ended}
use Rattle.pm_course.specs.declared.course_end.Refusal.{Refusal}
use Rattle.pm_course.specs.declared.frame_course.FrameCourse.{FrameCourse}
use Rattle.pm_course.specs.declared.voltages.Voltages.{Voltages}
use Rattle.pm_course.specs.declared.wish.Wishes.{Wishes}
use Rattle.pm_course.specs.Ends.{busy_end, end_of, is_open_end, refusal_of_job, refusal_of_plan}
use Rattle.pm_course.specs.Wishes.{AreFormed, missing_in, no_voltages, voltages_in, with_voltage, words_in}

-- a course of frames begins: on the way that pm_rail has, which keeps the words that are wanted as such
abbrev pub going_on : Course → Voltages → FrameCourse
going_on course voltages = record { course = course; voltages = voltages; fault = None; end = None }

abbrev pub to_wishes : ℕ → Wishes → ℕ → FrameCourse
to_wishes output wishes tries = going_on (course_of output (words_in wishes) tries) (voltages_in wishes)

abbrev pub to_survey : ℕ → ℕ → FrameCourse
to_survey output tries = going_on (survey_course_of output tries) no_voltages

abbrev pub to_byte : ℕ → ℕ → ℕ → FrameCourse
to_byte output byte tries = going_on (power_course_of output byte tries) no_voltages

-- a voltage is wanted of one more register, by a course to wanted words
abbrev pub wanting : FrameCourse → Reg → ℤ → FrameCourse
wanting c register x = record c { voltages = with_voltage c.voltages register x }

-- the word that the cell of OPERATION is known to hold, and that it doesn't take
abbrev pub untaken : Cell → Option ℕ → Option ℕ
untaken cell None = None
untaken cell (Some word) = rule (not (cell_accepts cell word)) word

abbrev pub untaken_at : Summary → ℕ → Option ℕ
untaken_at s output = untaken (Out output Operation) (sole (possible_at s (Out output Operation)))

-- OPERATION was read since the survey began, and holds such a byte
abbrev pub source_in : Summary → Course → Option ℕ
source_in s course = if course.survey.read.operation then untaken_at s course.survey.output else None

-- a course to a byte is ended by none
abbrev pub source_of : Summary → Course → Option ℕ → Option ℕ
source_of s course None = source_in s course
source_of s course (Some byte) = None

-- the format by which words are formed: the one that is known, once the survey has learned it
abbrev pub format_now : Summary → Course → Option Shape
format_now s course = if course.survey.learned then format_at s course.survey.output else None

-- the plan of the survey, of these words: none where nothing is wanted
abbrev pub planning : Course → Wanted → Option Wanted
planning course words = if is_some course.survey.plan then Some words else None

abbrev pub with_plan : Course → Option Wanted → Course
with_plan course plan = record course { survey = record course.survey { plan = plan } }

-- a word that is wanted or a voltage, of a register that the part doesn't have
abbrev pub missing_of : PartRegisters → FrameCourse → Option Refusal
missing_of part c = missing_in part (wanted_in c.course.survey.plan) c.voltages

-- The job is an order of OPERATION that turns the output on, or would read OPERATION once more, which was read and holds a byte
-- that its cell doesn't take: that byte is ordered over.
abbrev pub is_turning : Summary → Course → Asked → Bool
is_turning s course (Order cell word) = true
is_turning s course (Check (Out output Operation)) = is_some (source_in s course)
is_turning s course job = false

-- the word of WRITE_PROTECT, where it was read since the survey began and is known
abbrev pub protect_in : Summary → Course → Option ℕ
protect_in s course = if course.survey.read.protect then known_word Protect (possible_at s Protect) else None

-- such an order, once the register that its byte selects was read, by which the limits judge it
abbrev pub turn : Course → ℕ → Asked
turn course byte = if has_read course.survey.read (selected_register byte) then Order (Out course.survey.output Operation) byte
    else Check (Out course.survey.output (selected_register byte))

-- WRITE_PROTECT is read before it, and P7 refuses it where that doesn't allow it
abbrev pub turning : Course → ℕ → Option ℕ → Result Asked Refusal
turning course byte None = Ok (Check Protect)
turning course byte (Some protect) = if is_allowed protect (register_code Operation) then Ok (turn course byte)
    else Err (refusal_of_plan (Protected Operation))

-- what is asked for in the place of a job that the way names, or why nothing is
abbrev pub asked_for : Summary → Course → Option ℕ → Asked → Result Asked Refusal
asked_for s course None job = Ok job
asked_for s course (Some byte) job =
    if has_on byte && is_turning s course job then turning course byte (protect_in s course) else Ok job

-- the way once this job was asked for, where it named the other one
abbrev pub asking_for : Course → Course → Asked → Asked → Course
asking_for old after named job = record after {
  survey = record after.survey { plan = old.survey.plan; asked = Some job };
  ordered = is_order job || (if is_order named then old.ordered else after.ordered);
}

-- the host or its limits refuse the job that it said, by this number
abbrev pub refused_by : FrameCourse → ℕ → Asked → FrameCourse
refused_by c number job = record c { end = Some (Refused (refusal_of_job number job)) }

-- what a course says, and the course once it said so: an end stays, but for H3
pub record Says : Type 0 where
  pub next : CourseNext
  pub after : FrameCourse

abbrev pub course_ends : FrameCourse → CourseEnd → Says
course_ends c end = record { next = Ended end; after = record c { end = Some end } }

abbrev pub course_asks : FrameCourse → Course → Asked → Says
course_asks c course job = record { next = Job job; after = record c { course = course; end = None } }

abbrev pub saying_for : FrameCourse → Course → Asked → Result Asked Refusal → Says
saying_for c after named (Err refusal) = course_ends c (Refused refusal)
saying_for c after named (Ok job) = course_asks c (asking_for c.course after named job) job

abbrev pub saying_next : Summary → FrameCourse → Course → Next → Says
saying_next s c after (way.Ended end) = course_ends c (end_of c.fault end)
saying_next s c after (way.Job job) = saying_for c after job (asked_for s c.course c.course.byte job)

-- what it says with the words that its wishes have
abbrev pub saying_planned : PartRegisters → OutputLimits → Summary → FrameCourse → Result Wanted Refusal → Says
saying_planned part limits s c (Err refusal) = course_ends c (Refused refusal)
saying_planned part limits s c (Ok words) =
    let course = with_plan c.course (planning c.course words) in
    saying_next s c (after_next part limits s course) (next_of part limits s course)

abbrev pub saying_source : PartRegisters → OutputLimits → Summary → FrameCourse → Result Wanted Refusal → Option ℕ → Says
saying_source part limits s c words (Some byte) = course_ends c (OtherSource byte)
saying_source part limits s c words None = saying_planned part limits s c words

abbrev pub saying_missing : PartRegisters → OutputLimits → Summary → FrameCourse → Result Wanted Refusal → Option Refusal → Says
saying_missing part limits s c words (Some refusal) = course_ends c (Refused refusal)
saying_missing part limits s c words None = saying_source part limits s c words (source_of s c.course c.course.byte)

abbrev pub saying_idle : PartRegisters → OutputLimits → Summary → FrameCourse → Result Wanted Refusal → Says
saying_idle part limits s c words = if is_busy s then course_ends c busy_end
    else saying_missing part limits s c words (missing_of part c)

-- the end that a course has come to, and that stays
abbrev pub last_end : Option CourseEnd → Option CourseEnd
last_end None = None
last_end (Some end) = rule (not (is_open_end end)) end

abbrev pub saying_by : PartRegisters → OutputLimits → Summary → FrameCourse → Result Wanted Refusal → Option CourseEnd → Says
saying_by part limits s c words (Some end) = course_ends c end
saying_by part limits s c words None = saying_idle part limits s c words

abbrev pub saying : PartRegisters → OutputLimits → Summary → FrameCourse → Result Wanted Refusal → Says
saying part limits s c words = saying_by part limits s c words (last_end c.end)

-- What a course says next of a part with these registers, within its output's limits, and what it is then: by words that its
-- wishes have in the format that is known.
pub record SaysNext (part : PartRegisters) (limits : OutputLimits) (s : Summary) (old : FrameCourse) (result : CourseNext)
    (new : FrameCourse) : Type 0 where
  pub words : Result Wanted Refusal
  pub formed : AreFormed (format_now s old.course) (wanted_in old.course.survey.plan) old.voltages words
  pub next : result ≡ (saying part limits s old words).next
  pub after : new ≡ (saying part limits s old words).after

-- what it would say, of a course that stays as it is
pub record WouldSay (part : PartRegisters) (limits : OutputLimits) (s : Summary) (c : FrameCourse) (result : CourseNext) : Type 0 where
  pub after : FrameCourse
  pub says : SaysNext part limits s c result after
