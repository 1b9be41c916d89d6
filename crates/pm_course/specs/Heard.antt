-- What a course notes of what became of a frame of its job. This project's own choice.
use Rattle.std.specs.Prelude.{ℕ, Bool, false, ◌&&◌, ◌==◌, if◌then◌else◌, List, [], ◌∷◌, Option, Some, None, option_and_then}
use Rattle.pm_table.specs.Cell.{same_cell}
use Rattle.pm_frame.specs.declared.message.Message.{Message}
use Rattle.pm_frame.specs.Fault.{answer_fault}
use Rattle.pm_host.specs.declared.job.Job.{Job as Asked}
use Rattle.pm_host.specs.declared.job.Job.TheVariants.{Order, Check, Learn}
use Rattle.pm_host.specs.declared.job.JobEnd.{JobEnd}
use Rattle.pm_host.specs.declared.job.JobEnd.TheVariants as end
use Rattle.pm_host.specs.declared.host.Step.{Step}
use Rattle.pm_host.specs.declared.host.Step.TheVariants.{Next, Ended}
use Rattle.pm_host.specs.declared.question.Question.{Question}
use Rattle.pm_host.specs.declared.question.Question.TheVariants.{Word, Mode, Coefficients}
use Rattle.pm_host.specs.declared.stage.Stage.{Stage}
use Rattle.pm_host.specs.declared.stage.Stage.TheVariants.{Writes, Reads, Asks, Sends}
use Rattle.pm_host.specs.Answers.{good_payload}
use Rattle.pm_host.specs.Summary.{stage_message}
use Rattle.pm_host.specs.Transcript.{Entry, Accepted, Finished, Got, Restarted}
use Rattle.pm_rail.specs.declared.course.Course.{Course}
use Rattle.pm_rail.specs.declared.course.Differing.{Differing}
use Rattle.pm_rail.specs.Course.{told_of}
use Rattle.pm_course.specs.declared.answer_fault.AnswerFault.{AnswerFault}
use Rattle.pm_course.specs.declared.answer_fault.AnswerFault.TheVariants.{NoAnswer, NotAcknowledged}
use Rattle.pm_course.specs.declared.course_end.CourseEnd.TheVariants.{Differs, NoFormat}
use Rattle.pm_course.specs.declared.frame_course.FrameCourse.{FrameCourse}
use Rattle.pm_course.specs.AnswerFault.{of_frame}

-- the job that stands at a stage is the one that was asked for
abbrev pub is_asking : Asked → Question → Bool
is_asking (Check cell) (Word at) = same_cell cell at
is_asking (Learn output) (Mode at) = output == at
is_asking (Learn output) (Coefficients at) = output == at
is_asking job question = false

abbrev pub is_ordering : Asked → Stage → Bool
is_ordering (Order cell word) (Writes at sent pass) = same_cell cell at && word == sent
is_ordering (Order cell word) (Reads at sent pass) = same_cell cell at && word == sent
is_ordering job stage = false

abbrev pub is_asked_at : Asked → Stage → Bool
is_asked_at job (Writes at sent pass) = is_ordering job (Writes at sent pass)
is_asked_at job (Reads at sent pass) = is_ordering job (Reads at sent pass)
is_asked_at job (Asks question tries) = is_asking job question
is_asked_at job (Sends command tries) = false

abbrev pub is_job_of : Option Asked → Stage → Bool
is_job_of None stage = false
is_job_of (Some job) stage = is_asked_at job stage

-- what is wrong with the bytes that came back for a request: none came, or F1 to F5
abbrev pub bytes_fault : ℕ → Message → List ℕ → Option AnswerFault
bytes_fault addr message [] = Some NoAnswer
bytes_fault addr message (byte ∷ bytes) = option_and_then of_frame (answer_fault addr message (byte ∷ bytes))

-- nothing is wrong with a good answer, and one that reads an order back leaves what was wrong with its write
abbrev pub good_after : Option AnswerFault → Stage → Option AnswerFault
good_after fault (Reads cell word pass) = fault
good_after fault (Writes cell word pass) = None
good_after fault (Asks question tries) = None
good_after fault (Sends command tries) = None

abbrev pub answer_after : Option AnswerFault → Stage → Option AnswerFault → Option AnswerFault
answer_after fault stage (Some wrong) = Some wrong
answer_after fault stage None = good_after fault stage

-- what was wrong with what became of a frame, and what is noted once that was so
abbrev pub entry_fault : ℕ → Stage → Entry → Option AnswerFault
entry_fault addr stage (Finished acked) = if acked then None else Some NotAcknowledged
entry_fault addr stage (Got bytes) = bytes_fault addr (stage_message stage) bytes
entry_fault addr stage (Accepted job) = None
entry_fault addr stage Restarted = None

abbrev pub fault_by : Option AnswerFault → Stage → Entry → Option AnswerFault → Option AnswerFault
fault_by fault stage (Finished acked) wrong = wrong
fault_by fault stage (Got bytes) wrong = answer_after fault stage wrong
fault_by fault stage (Accepted job) wrong = fault
fault_by fault stage Restarted wrong = fault

abbrev pub fault_after : Option AnswerFault → ℕ → Stage → Entry → Option AnswerFault
fault_after fault addr stage entry = fault_by fault stage entry (entry_fault addr stage entry)

-- the byte of VOUT_MODE, by the payload of a good answer: the payload's, and 40h (DIRECT) where the coefficients were asked for
abbrev pub named_in : Question → List ℕ → Option ℕ
named_in (Mode output) [] = None
named_in (Mode output) (byte ∷ bytes) = Some byte
named_in (Coefficients output) payload = Some 0x40
named_in (Word cell) payload = None

-- VOUT_MODE of a learn that ended without a format though its last answer was good
abbrev pub mode_asked : ℕ → Stage → List ℕ → Option ℕ
mode_asked addr (Asks question tries) bytes =
    option_and_then (named_in question) (good_payload addr (stage_message (Asks question tries)) bytes)
mode_asked addr (Writes cell word pass) bytes = None
mode_asked addr (Reads cell word pass) bytes = None
mode_asked addr (Sends command tries) bytes = None

abbrev pub mode_got : ℕ → Stage → Entry → Option ℕ
mode_got addr stage (Got bytes) = mode_asked addr stage bytes
mode_got addr stage (Accepted job) = None
mode_got addr stage (Finished acked) = None
mode_got addr stage Restarted = None

abbrev pub mode_told : ℕ → Stage → Entry → JobEnd → Option ℕ
mode_told addr stage entry end.Unknown = mode_got addr stage entry
mode_told addr stage entry end.Done = None
mode_told addr stage entry (end.Differs word) = None
mode_told addr stage entry end.Learned = None

-- such a learn ends the course, and so does an order that differed a second time
abbrev pub ended_by : FrameCourse → Option ℕ → Option Differing → FrameCourse
ended_by c (Some mode) twice = record c { end = Some (NoFormat mode) }
ended_by c None (Some differs) = record c { end = Some (Differs differs.register differs.word) }
ended_by c None None = c

-- the course once its job stands so
abbrev pub stepped : FrameCourse → ℕ → Stage → Entry → Step → FrameCourse
stepped c addr stage entry Next = c
stepped c addr stage entry (Ended over) = let course = told_of c.course over in
    ended_by (record c { course = course }) (mode_told addr stage entry over) course.twice

-- the format is learned anew before anything else is asked for
abbrev pub forgetting : Course → Course
forgetting course = record course { survey = record course.survey { learned = false } }

-- what is noted of the frame of the course's job: what was wrong with it, and that the part restarted or was exchanged
abbrev pub noting : FrameCourse → ℕ → Stage → Entry → Bool → FrameCourse
noting c addr stage entry surprised = record c {
  course = if surprised then forgetting c.course else c.course;
  fault = fault_after c.fault addr stage entry;
}

-- the course once what became of a frame was told: nothing of another job's frame counts
abbrev pub heard_by : FrameCourse → ℕ → Stage → Entry → Bool → Step → FrameCourse
heard_by c addr stage entry surprised step = if is_job_of c.course.survey.asked stage
    then stepped (noting c addr stage entry surprised) addr stage entry step else c
