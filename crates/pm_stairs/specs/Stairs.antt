-- The machine that carries out steps, one after another: this project's own choice.
use Rattle.std.specs.Prelude.{◌≡◌, ℕ, Bool, true, false, ◌&&◌, nat_lt, ◌==◌, if◌then◌else◌, Option, Some, None, unwrap_or, Result, Ok, Err}
use Rattle.pm_table.specs.declared.cell.Cell.{Cell}
use Rattle.pm_host.specs.declared.fault.HostFault.TheVariants.{UnknownOutput}
use Rattle.pm_host.specs.declared.job.Job.TheVariants.{Order, Check}
use Rattle.pm_host.specs.FaultWords.{host_fault_number}
use Rattle.pm_limits.specs.Guard.{Guarded, limits_at}
use Rattle.pm_rail.specs.declared.wanted.Wanted.{Wanted}
use Rattle.pm_rail.specs.Survey.{asking, wanted_in}
use Rattle.pm_course.specs.declared.course_end.CourseEnd.TheVariants.{Refused, Spent}
use Rattle.pm_course.specs.declared.course_end.CourseNext.{CourseNext}
use Rattle.pm_course.specs.declared.course_end.Refusal.{Refusal}
use Rattle.pm_course.specs.declared.frame_course.FrameCourse.{FrameCourse}
use Rattle.pm_course.specs.Ends.{code_asked, code_of}
use Rattle.pm_course.specs.FrameCourse.{format_now}
use Rattle.pm_course.specs.Frames.{SaysBy}
use Rattle.pm_course.specs.Wishes.{AreFormed}
use Rattle.pm_stairs.specs.declared.said.Said.{Said}
use Rattle.pm_stairs.specs.declared.said.Said.TheVariants.{Orders, Reads, Looks, Over, Stops}
use Rattle.pm_stairs.specs.declared.said.StepEnd.TheVariants.{Course, Restarted}
use Rattle.pm_stairs.specs.declared.stairs.Move.{Move}
use Rattle.pm_stairs.specs.declared.stairs.Move.TheVariants as move
use Rattle.pm_stairs.specs.declared.stairs.Stairs.{Stairs}
use Rattle.pm_stairs.specs.declared.stairs.Under.{Under}
use Rattle.pm_stairs.specs.declared.step.Step.{Step}
use Rattle.pm_stairs.specs.declared.step.WordStep.{WordStep}
use Rattle.pm_stairs.specs.Due.{due_now, said_of}
use Rattle.pm_stairs.specs.Steps.{noted, step_course, step_with}

-- no step has begun
abbrev pub stairs_new : Stairs
stairs_new = record { under = None; coming = None; reading = false; restarted = false }

-- ---- What a step asks for ----

-- the guard's host has these outputs
abbrev pub is_there : Guarded → ℕ → Bool
is_there g output = nat_lt output g.host.setup.outputs

abbrev pub are_there : Guarded → WordStep → FrameCourse → Bool
are_there g step course = is_there g step.output && is_there g course.course.survey.output

abbrev pub no_output_refusal : Refusal
no_output_refusal = record { number = host_fault_number UnknownOutput; register = None }

-- a look takes a try of the step's course, as each job does
abbrev pub trying : FrameCourse → Said → Said
trying course (Looks cell) = if course.course.survey.left == 0
    then Stops (Course (Spent (code_of (code_asked (Check cell))) course.fault)) else Looks cell
trying course said = said

abbrev pub looked : FrameCourse → Cell → FrameCourse
looked c cell = record c { course = record c.course { survey = asking c.course.survey (Some (Check cell)) } }

-- The course of a step once it said so. One that has ended `Reached` stays as it was, so that it is asked again each time.
abbrev pub course_after : FrameCourse → FrameCourse → Said → FrameCourse
course_after old after (Looks cell) = looked old cell
course_after old after Over = old
course_after old after said = after

abbrev pub said_for : Guarded → Bool → WordStep → FrameCourse → CourseNext → Said
said_for g begun step course next = trying course
    (said_of begun step.output course.course (due_now g.registers (limits_at g step.output) g.host step) next)

-- what a step asks for by a guard, which has begun or begins now, and its course then
pub record SaysStep (g : Guarded) (begun : Bool) (step : WordStep) (old : FrameCourse) (said : Said) (new : FrameCourse) : Type 0 where
  pub next : CourseNext
  pub after : FrameCourse
  pub says : SaysBy g old next after
  pub is_said : said ≡ said_for g begun step old next
  pub is_new : new ≡ course_after old after said

-- the words of a step's wishes, by the format that is known, or why one has none
pub data HasWords (g : Guarded) (c : FrameCourse) : Result Wanted Refusal → Type 0 where
  absent : is_there g c.course.survey.output ≡ false → HasWords g c (Err no_output_refusal)
  formed : (words : Result Wanted Refusal) → AreFormed (format_now g.host c.course) (wanted_in c.course.survey.plan) c.voltages words →
      HasWords g c words

-- ---- What comes next ----

-- the step under way: nothing more, where that is over
abbrev pub under_move : Said → Option Move
under_move (Orders cell word) = Some (move.Job (Order cell word))
under_move (Reads job) = Some (move.Job job)
under_move (Looks cell) = Some (move.Job (Check cell))
under_move Over = None
under_move (Stops why) = Some (move.Stops why)

abbrev pub under_after : Stairs → WordStep → FrameCourse → Stairs
under_after old step course = record old { under = Some (record { step = step; course = course }); reading = false }

pub data GoesUnder (g : Guarded) (old : Stairs) : Option Move → Stairs → Type 0 where
  free : old.under ≡ None → GoesUnder g old None (record old { reading = false })
  absent : (under : Under) → old.under ≡ Some under → are_there g under.step under.course ≡ false →
      GoesUnder g old (Some (move.Stops (Course (Refused no_output_refusal)))) (record old { reading = false })
  asks : (under : Under) (said : Said) (course : FrameCourse) → old.under ≡ Some under →
      SaysStep g true under.step under.course said course → GoesUnder g old (under_move said) (under_after old under.step course)

-- the first step ahead: where it begins, the step that undoes it is noted
abbrev pub ahead_move : WordStep → Said → Move
ahead_move back (Orders cell word) = move.Begins (Order cell word) back
ahead_move back (Reads job) = move.Job job
ahead_move back (Looks cell) = move.Job (Check cell)
ahead_move back Over = move.Passes back
ahead_move back (Stops why) = move.Stops why

abbrev pub begins_now : Said → Bool
begins_now (Orders cell word) = true
begins_now Over = true
begins_now said = false

abbrev pub step_begun_with : Stairs → WordStep → FrameCourse → Stairs
step_begun_with old step course = record old { under = Some (record { step = step; course = course }); coming = None; reading = false }

abbrev pub stairs_reading_for : Stairs → FrameCourse → Stairs
stairs_reading_for old course = record old { coming = Some course; reading = true }

abbrev pub stairs_ahead_after : Stairs → WordStep → FrameCourse → Bool → Stairs
stairs_ahead_after old step course begins = if begins then step_begun_with old step course else stairs_reading_for old course

pub data AsksAhead (g : Guarded) (step : WordStep) (course : FrameCourse) (old : Stairs) : Move → Stairs → Type 0 where
  absent : are_there g step course ≡ false →
      AsksAhead g step course old (move.Stops (Course (Refused no_output_refusal))) (stairs_reading_for old course)
  asks : (said : Said) (after : FrameCourse) → SaysStep g false step course said after →
      AsksAhead g step course old (ahead_move (noted g.host step) said) (stairs_ahead_after old step after (begins_now said))

-- the course of the first step ahead: as far as it has come, or a new one
abbrev pub coming_course : Stairs → Step → ℕ → FrameCourse
coming_course old step tries = unwrap_or old.coming (step_course step tries)

pub data GoesAhead (g : Guarded) (tries : ℕ) (step : Step) (old : Stairs) : Move → Stairs → Type 0 where
  unformed : (refusal : Refusal) → HasWords g (coming_course old step tries) (Err refusal) →
      GoesAhead g tries step old (move.Stops (Course (Refused refusal))) (stairs_reading_for old (coming_course old step tries))
  asks : (words : Wanted) (next : Move) (new : Stairs) → HasWords g (coming_course old step tries) (Ok words) →
      AsksAhead g (step_with step words) (coming_course old step tries) old next new → GoesAhead g tries step old next new

-- A restart of the part that was seen ends all. Otherwise the step under way is asked first, each time. Only where it is over at that
-- moment, or none has begun, the first step ahead is asked.
pub data Goes (g : Guarded) (tries : ℕ) (ahead : Option Step) (old : Stairs) : Move → Stairs → Type 0 where
  restarted : old.restarted ≡ true → Goes g tries ahead old (move.Stops Restarted) old
  under : (next : Move) (new : Stairs) → old.restarted ≡ false → GoesUnder g old (Some next) new → Goes g tries ahead old next new
  first : (step : Step) (next : Move) (between new : Stairs) → old.restarted ≡ false → GoesUnder g old None between → ahead ≡ Some step →
      GoesAhead g tries step between next new → Goes g tries ahead old next new
  all : (new : Stairs) → old.restarted ≡ false → GoesUnder g old None new → ahead ≡ None → Goes g tries ahead old move.Reached new
