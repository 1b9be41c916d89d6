-- What a host holds of its transcript, and what one more entry makes of it: this project's own choice
-- of how an order, a check, a learn and a command that is sent go.
use Rattle.std.specs.Prelude.{ℕ, ◌+◌, Bool, if◌then◌else◌, ◌==◌, List, replicate, slice_index_or, slice_set, Option, Some, None, Result, Ok}
use Rattle.std.specs.Prelude.{Err, option_map}
use Rattle.std.specs.Result.{result_ok}
use Rattle.pm_num.specs.AnyFormat.{Shape, InUlinear16}
use Rattle.pm_table.specs.declared.cell.Cell.{Cell}
use Rattle.pm_table.specs.Coefficients.{coefficients_of}
use Rattle.pm_table.specs.declared.fault.TableFault.{TableFault}
use Rattle.pm_table.specs.declared.vout_mode.VoutMode.{VoutMode}
use Rattle.pm_table.specs.declared.vout_mode.VoutMode.TheVariants.{Linear, Direct}
use Rattle.pm_table.specs.VoutMode.{mode_of}
use Rattle.pm_table.specs.Format.{shape_in}
use Rattle.pm_frame.specs.declared.message.Message.{Message}
use Rattle.pm_host.specs.declared.command.Command.{Command}
use Rattle.pm_host.specs.declared.knowledge.Possible.{Possible}
use Rattle.pm_host.specs.declared.knowledge.Standing.{Standing}
use Rattle.pm_host.specs.declared.question.Question.{Question}
use Rattle.pm_host.specs.declared.question.Question.TheVariants.{Word, Mode, Coefficients}
use Rattle.pm_host.specs.declared.stage.Stage.{Stage}
use Rattle.pm_host.specs.declared.stage.Stage.TheVariants.{Writes, Reads, Asks, Sends}
use Rattle.pm_host.specs.declared.job.JobEnd.{JobEnd}
use Rattle.pm_host.specs.declared.job.JobEnd.TheVariants.{Done, Differs, Unknown, Learned}
use Rattle.pm_host.specs.declared.host.Step.{Step}
use Rattle.pm_host.specs.declared.host.Step.TheVariants.{Next, Ended}
use Rattle.pm_host.specs.Answers.{good_payload, good_word, word_in}
use Rattle.pm_host.specs.Known.{Known, known_possible, known_standing, known_after, known_more, nothing_known}
use Rattle.pm_host.specs.Marks.{Mark, Put, Good, send_marks}
use Rattle.pm_host.specs.Messages.{cell_write, cell_read, command_message}
use Rattle.pm_host.specs.Question.{question_message}
use Rattle.pm_host.specs.Transcript.{Setup, Job, Order, Check, Learn, Send, Entry, Accepted, Finished, Got, Restarted}

pub record Summary : Type 0 where
  -- what the host was made with
  pub setup : Setup
  -- the stage of the open job; None if no job is open
  pub stage : Option Stage
  -- the format of each output's voltages, where it was learned
  pub formats : List (Option Shape)
  -- what is known of the cells
  pub known : Known

-- the summary of these parts
abbrev pub summary : (addr outputs passes : ℕ) → Option Stage → List (Option Shape) → Known → Summary
summary addr outputs passes stage formats known = record {
  setup = record { addr = addr; outputs = outputs; passes = passes };
  stage = stage;
  formats = formats;
  known = known;
}

-- the words that a cell may hold, what is said of it, and the format of an output's voltages
abbrev pub possible_at : Summary → Cell → Possible
possible_at s cell = known_possible s.known cell

abbrev pub standing_at : Summary → Cell → Standing
standing_at s cell = known_standing s.known cell

abbrev pub format_at : Summary → ℕ → Option Shape
format_at s output = slice_index_or s.formats output None

-- the message whose frame a stage sends
abbrev pub stage_message : Stage → Message
stage_message (Writes cell word pass) = cell_write cell word
stage_message (Reads cell word pass) = cell_read cell
stage_message (Asks question tries) = question_message question
stage_message (Sends command tries) = command_message command

-- the message whose frame is being sent; None where no job is open
abbrev pub sending_in : Summary → Option Message
sending_in s = option_map stage_message s.stage

-- no format is known
unfoldable pub no_formats : List (Option Shape)
no_formats = replicate 8 None

-- as a host starts
abbrev pub start : Setup → Summary
start setup = record { setup = setup; stage = None; formats = no_formats; known = nothing_known }

-- what one entry makes of the summary, and what the call that brings it answers
pub record Change : Type 0 where
  pub after : Summary
  pub step : Step

-- the job goes on at this stage
abbrev pub goes_on_at : Summary → Stage → Change
goes_on_at s stage = record { after = record s { stage = Some stage }; step = Next }

-- the job has ended
abbrev pub ends : Summary → JobEnd → Change
ends s end = record { after = record s { stage = None }; step = Ended end }

-- nothing happens to the job at this stage, or to none
abbrev pub stays : Summary → Option Stage → Change
stays s stage = record { after = record s { stage = stage }; step = Next }

-- the stage is over: the job goes on at another, or ends
abbrev pub idle : Summary → Summary
idle s = record s { stage = None }

-- one more mark
abbrev pub marked : Summary → Mark → Summary
marked s mark = record s { known = known_after s.known mark }

-- the write of an order begins to be sent
abbrev pub writes : Summary → Cell → ℕ → ℕ → Change
writes s cell word pass = goes_on_at (marked s (Put cell word)) (Writes cell word pass)

-- a command begins to be sent, after these tries, and leaves its marks
abbrev pub sends : Summary → Command → ℕ → Change
sends s command tries =
    goes_on_at (record s { known = known_more s.known (send_marks command) }) (Sends command tries)

-- a question is asked again after these tries, where one is left
abbrev pub another : Summary → Question → ℕ → Change
another s question tries =
    if tries + 1 == s.setup.passes then ends s Unknown else goes_on_at s (Asks question (tries + 1))

-- a job is accepted
abbrev pub begins : Summary → Job → Change
begins s (Order cell word) = writes s cell word 0
begins s (Check cell) = goes_on_at s (Asks (Word cell) 0)
begins s (Learn output) = goes_on_at s (Asks (Mode output) 0)
begins s (Send command) = sends s command 0

-- an order read its cell back, in this pass
abbrev pub read_another : Summary → Cell → ℕ → ℕ → ℕ → Change
read_another s cell word pass read =
    if read == word then ends s Done
    else (if pass + 1 == s.setup.passes then ends s (Differs read)
    else writes s cell word (pass + 1))

abbrev pub read_back : Summary → Cell → ℕ → ℕ → Option ℕ → Change
read_back s cell word pass None =
    if pass + 1 == s.setup.passes then ends s Unknown else writes s cell word (pass + 1)
read_back s cell word pass (Some read) =
    read_another (marked s (Good cell read)) cell word pass read

-- a learn ends with a format, or with none
abbrev pub learned : Summary → ℕ → Option Shape → Change
learned s output None = ends s Unknown
learned s output (Some shape) =
    ends (record s { formats = slice_set s.formats output (Some shape) }) Learned

-- a learn read VOUT_MODE
abbrev pub mode_taken : Summary → ℕ → Result VoutMode TableFault → Change
mode_taken s output (Err fault) = learned s output None
mode_taken s output (Ok (Linear exponent)) = learned s output (Some (InUlinear16 exponent))
mode_taken s output (Ok Direct) = goes_on_at s (Asks (Coefficients output) 0)

-- a good answer to a question has this payload
abbrev pub answer_taken : Summary → Question → List ℕ → Change
answer_taken s (Word cell) payload = ends (marked s (Good cell (word_in payload))) Done
answer_taken s (Mode output) payload = mode_taken s output (mode_of (word_in payload))
answer_taken s (Coefficients output) payload =
    learned s output (result_ok (shape_in Direct (coefficients_of payload)))

-- a question got a good answer, or is asked again
abbrev pub question_answered : Summary → Question → ℕ → Option (List ℕ) → Change
question_answered s question tries None = another s question tries
question_answered s question tries (Some payload) = answer_taken s question payload

-- the frame of a write was sent, and acknowledged or not
abbrev pub finished : Summary → Option Stage → Bool → Change
finished s (Some (Writes cell word pass)) acked = goes_on_at s (Reads cell word pass)
finished s (Some (Sends command tries)) acked =
    if acked then ends s Done
    else (if tries + 1 == s.setup.passes then ends s Unknown else sends s command (tries + 1))
finished s stage acked = stays s stage

-- bytes came back for a request
abbrev pub request_answered : Summary → Option Stage → List ℕ → Change
request_answered s (Some (Reads cell word pass)) bytes =
    read_back s cell word pass (good_word s.setup.addr cell bytes)
request_answered s (Some (Asks question tries)) bytes =
    question_answered s question tries (good_payload s.setup.addr (question_message question) bytes)
request_answered s stage bytes = stays s stage

abbrev pub change : Summary → Entry → Change
change s (Accepted job) = begins s job
change s (Finished acked) = finished (idle s) s.stage acked
change s (Got bytes) = request_answered (idle s) s.stage bytes
change s Restarted = record { after = start s.setup; step = Next }

-- the summary after one more entry, and what the call that brings it answers
unfoldable pub host_next : Summary → Entry → Summary
host_next s entry = (change s entry).after

unfoldable pub step_of : Summary → Entry → Step
step_of s entry = (change s entry).step

-- what a call answers, by the end of the job
abbrev pub step_by : Option JobEnd → Step
step_by None = Next
step_by (Some end) = Ended end
