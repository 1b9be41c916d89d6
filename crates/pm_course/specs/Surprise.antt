-- Which answers show that the part restarted or was exchanged. This project's own choice.
use Rattle.std.specs.Prelude.{ℕ, Bool, true, false, not, List, Option, Some, None}
use Rattle.pm_table.specs.declared.cell.Cell.{Cell}
use Rattle.pm_host.specs.declared.question.Question.{Question}
use Rattle.pm_host.specs.declared.question.Question.TheVariants.{Word, Mode, Coefficients}
use Rattle.pm_host.specs.declared.stage.Stage.{Stage}
use Rattle.pm_host.specs.declared.stage.Stage.TheVariants.{Writes, Reads, Asks, Sends}
use Rattle.pm_frame.specs.View.{answer_payload}
use Rattle.pm_host.specs.declared.host.Step.{Step}
use Rattle.pm_host.specs.declared.host.Step.TheVariants.{Next, Ended}
use Rattle.pm_host.specs.declared.job.JobEnd.TheVariants.{Done}
use Rattle.pm_host.specs.Answers.{good_word, word_in}
use Rattle.pm_host.specs.Messages.{cell_read as cell_read_by}
use Rattle.pm_host.specs.Possible.{is_possible}
use Rattle.pm_host.specs.Summary.{Summary, possible_at}
use Rattle.pm_host.specs.Transcript.{Entry, Accepted, Finished, Got, Restarted}

-- the cell whose word is read by the frame of a stage
abbrev pub cell_asked : Question → Option Cell
cell_asked (Word cell) = Some cell
cell_asked (Mode output) = None
cell_asked (Coefficients output) = None

abbrev pub cell_of_read : Stage → Option Cell
cell_of_read (Writes cell word pass) = None
cell_of_read (Reads cell word pass) = Some cell
cell_of_read (Asks question tries) = cell_asked question
cell_of_read (Sends command tries) = None

-- the cell that is read couldn't hold the word of a payload
abbrev pub is_word_new : Summary → Option Cell → List ℕ → Bool
is_word_new s None payload = false
is_word_new s (Some cell) payload = not (is_possible (word_in payload) (possible_at s cell))

-- a good answer has a word that the cell couldn't hold
abbrev pub is_surprise : Summary → Cell → Option ℕ → Bool
is_surprise s cell None = false
is_surprise s cell (Some word) = not (is_possible word (possible_at s cell))

abbrev pub surprises_at : Summary → Option Cell → List ℕ → Bool
surprises_at s None bytes = false
surprises_at s (Some cell) bytes = is_surprise s cell (good_word s.setup.addr cell bytes)

-- What became of the frame of a stage shows, by what the host knew before it was told, that the part restarted or was exchanged
-- since it was read.
abbrev pub surprises : Summary → Stage → Entry → Bool
surprises s stage (Got bytes) = surprises_at s (cell_of_read stage) bytes
surprises s stage (Accepted job) = false
surprises s stage (Finished acked) = false
surprises s stage Restarted = false

-- a job has ended well
abbrev pub is_done : Step → Bool
is_done (Ended Done) = true
is_done step = false

-- the cell of a check couldn't hold the word that came back, if the answer is good
abbrev pub looks_new : Summary → Cell → List ℕ → Bool
looks_new s cell bytes = is_word_new s (Some cell) (answer_payload (cell_read_by cell) bytes)
