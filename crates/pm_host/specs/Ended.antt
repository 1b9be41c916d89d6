-- What the end of a job says of what the host then knows, and which job is open: this project's own choice.
use Rattle.std.specs.Prelude.{◌≡◌, ◌≢◌, ℕ, true, false, Option, Some, None, IsSome, IsSomeAnd, option_map}
use Rattle.pm_table.specs.declared.cell.Cell.{Cell}
use Rattle.pm_host.specs.declared.job.JobEnd.{JobEnd}
use Rattle.pm_host.specs.declared.job.JobEnd.TheVariants.{Done, Differs, Unknown, Learned}
use Rattle.pm_host.specs.declared.question.Question.{Question}
use Rattle.pm_host.specs.declared.question.Question.TheVariants.{Word, Mode, Coefficients}
use Rattle.pm_host.specs.declared.stage.Stage.{Stage}
use Rattle.pm_host.specs.declared.stage.Stage.TheVariants.{Writes, Reads, Asks, Sends}
use Rattle.pm_host.specs.declared.knowledge.Standing.TheVariants as standing
use Rattle.pm_host.specs.declared.host.Step.{Step}
use Rattle.pm_host.specs.declared.host.Step.TheVariants.{Next, Ended}
use Rattle.pm_host.specs.Answers.{good_word}
use Rattle.pm_host.specs.Possible.{is_possible, only}
use Rattle.pm_host.specs.Summary.{Summary, possible_at, standing_at, format_at}
use Rattle.pm_host.specs.Transcript.{Job, Order, Check, Learn, Send, Entry, Accepted, Finished, Got, Restarted}

-- the job whose question it is
abbrev pub question_job : Question → Job
question_job (Word cell) = Check cell
question_job (Mode output) = Learn output
question_job (Coefficients output) = Learn output

-- the job that stands at a stage
abbrev pub stage_job : Stage → Job
stage_job (Writes cell word pass) = Order cell word
stage_job (Reads cell word pass) = Order cell word
stage_job (Asks question tries) = question_job question
stage_job (Sends command tries) = Send command

-- the job that is open; None where none is
abbrev pub job_in : Summary → Option Job
job_in s = option_map stage_job s.stage

-- the word that was told for a cell: that of a good answer
abbrev pub word_told : ℕ → Cell → Entry → Option ℕ
word_told addr cell (Accepted job) = None
word_told addr cell (Finished acked) = None
word_told addr cell (Got bytes) = good_word addr cell bytes
word_told addr cell Restarted = None

-- a word was read from the cell: it is confirmed, and the cell may hold no other
pub record IsRead (s : Summary) (cell : Cell) (word : ℕ) : Type 0 where
  pub confirmed : standing_at s cell ≡ standing.Confirmed word
  pub alone : possible_at s cell ≡ only word

-- a word was ordered, and nothing says whether the cell has it: it may, and no word of the cell is confirmed
pub record IsUncertain (s : Summary) (cell : Cell) (word : ℕ) : Type 0 where
  pub unknown : standing_at s cell ≡ standing.Unknown
  pub possible : is_possible word (possible_at s cell) ≡ true

-- what is known of the cells stays, and the formats stay
abbrev pub KeepsKnown : Summary → Summary → Type 0
KeepsKnown old new = new.known ≡ old.known

abbrev pub KeepsFormats : Summary → Summary → Type 0
KeepsFormats old new = new.formats ≡ old.formats

-- An order that is done was told its word, one that differs another; it is what the cell was read to have. Where
-- it is unknown, the last frame brought no good answer, and nothing says whether the word took.
abbrev pub OrderTells : Cell → ℕ → Option ℕ → JobEnd → Summary → Type 0
OrderTells cell word told Done new = (told ≡ Some word) × IsRead new cell word
OrderTells cell word told (Differs read) new = (told ≡ Some read) × (read ≢ word) × IsRead new cell read
OrderTells cell word told Unknown new = (told ≡ None) × IsUncertain new cell word
OrderTells cell word told Learned new = ⊥

-- A check that is done was told a word, which is what the cell was read to have. Where it is unknown, the last frame
-- brought no good answer either, and what is known stays.
abbrev pub CheckTells : Cell → Option ℕ → JobEnd → Summary → Summary → Type 0
CheckTells cell told Done old new = IsSomeAnd told (IsRead new cell)
CheckTells cell told Unknown old new = (told ≡ None) × KeepsKnown old new
CheckTells cell told end old new = ⊥

-- the formats of the other outputs stay
abbrev pub KeepsOthers : ℕ → Summary → Summary → Type 0
KeepsOthers output old new = (other : ℕ) → other ≢ output → format_at new other ≡ format_at old other

-- A learn that learned has left a format of its output; one that is unknown leaves that of before. What is known of
-- the cells stays.
abbrev pub LearnTells : ℕ → JobEnd → Summary → Summary → Type 0
LearnTells output Learned old new =
    IsSome (format_at new output) × KeepsOthers output old new × KeepsKnown old new
LearnTells output Unknown old new = KeepsFormats old new × KeepsKnown old new
LearnTells output end old new = ⊥

-- A command that is done was acknowledged, one that is unknown wasn't: it may have been carried out. What is known
-- stays as it was while the command was being sent.
abbrev pub SendTells : Entry → JobEnd → Summary → Summary → Type 0
SendTells told Done old new = (told ≡ Finished true) × KeepsKnown old new
SendTells told Unknown old new = (told ≡ Finished false) × KeepsKnown old new
SendTells told end old new = ⊥

-- what the end of a job says, of the summary before the entry that ended it, and after
abbrev pub EndTells : Job → Entry → JobEnd → Summary → Summary → Type 0
EndTells (Order cell word) told end old new =
    OrderTells cell word (word_told old.setup.addr cell told) end new × KeepsFormats old new
EndTells (Check cell) told end old new =
    CheckTells cell (word_told old.setup.addr cell told) end old new × KeepsFormats old new
EndTells (Learn output) told end old new = LearnTells output end old new
EndTells (Send command) told end old new = SendTells told end old new × KeepsFormats old new

-- What the call says that tells the host of a frame: the job stays open, or has ended, and its end says what it says.
-- Formats change only by a learn that ends.
abbrev pub StepTells : Summary → Entry → Step → Summary → Type 0
StepTells old told Next new = (job_in new ≡ job_in old) × KeepsFormats old new
StepTells old told (Ended end) new =
    (job_in new ≡ None) × IsSomeAnd (job_in old) (λ job. EndTells job told end old new)

-- once an order is accepted, its word may be the cell's, and no word of the cell is confirmed
abbrev pub BeginsWith : Summary → Job → Type 0
BeginsWith s (Order cell word) = IsUncertain s cell word
BeginsWith s (Check cell) = Unit {0}
BeginsWith s (Learn output) = Unit {0}
BeginsWith s (Send command) = Unit {0}
