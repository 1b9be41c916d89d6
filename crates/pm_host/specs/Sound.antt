-- What holds of each host between two calls.
use Rattle.std.specs.Prelude.{◌≡◌, ℕ, ◌<◌, true, length, Option, Some, None}
use Rattle.pm_table.specs.declared.cell.Cell.{Cell}
use Rattle.pm_table.specs.Cell.{cell_accepts, IsCell}
use Rattle.pm_host.specs.declared.command.Command.{Command}
use Rattle.pm_host.specs.declared.question.Question.{Question}
use Rattle.pm_host.specs.declared.stage.Stage.{Stage}
use Rattle.pm_host.specs.declared.stage.Stage.TheVariants.{Writes, Reads, Asks, Sends}
use Rattle.pm_host.specs.declared.knowledge.Standing.TheVariants.{Unknown}
use Rattle.pm_host.specs.Cells.{is_command}
use Rattle.pm_host.specs.Possible.{is_possible}
use Rattle.pm_host.specs.Question.{IsQuestion}
use Rattle.pm_host.specs.Refusals.{IsSetup}
use Rattle.pm_host.specs.Summary.{Summary, possible_at, standing_at}

-- the cell of a write accepts its word
abbrev pub AcceptsWrittenWord : Stage → Type 0
AcceptsWrittenWord (Writes cell word pass) = cell_accepts cell word ≡ true
AcceptsWrittenWord stage = Unit {0}

-- an order is open: its cell is there and accepts its word, which is one that the cell may hold; no
-- word of the cell is confirmed, and a pass is left
pub record IsOrdering (s : Summary) (cell : Cell) (word pass : ℕ) : Type 0 where
  pub there : IsCell s.setup.outputs cell
  pub accepted : cell_accepts cell word ≡ true
  pub possible : is_possible word (possible_at s cell) ≡ true
  pub unknown : standing_at s cell ≡ Unknown
  pub left : pass < s.setup.passes

-- a question is open
pub record IsAsking (s : Summary) (question : Question) (tries : ℕ) : Type 0 where
  pub there : IsQuestion s.setup.outputs question
  pub left : tries < s.setup.passes

-- a command is being sent
pub record IsSending (s : Summary) (command : Command) (tries : ℕ) : Type 0 where
  pub there : is_command s.setup.outputs command ≡ true
  pub left : tries < s.setup.passes

abbrev pub IsStage : Summary → Option Stage → Type 0
IsStage s None = Unit {0}
IsStage s (Some (Writes cell word pass)) = IsOrdering s cell word pass
IsStage s (Some (Reads cell word pass)) = IsOrdering s cell word pass
IsStage s (Some (Asks question tries)) = IsAsking s question tries
IsStage s (Some (Sends command tries)) = IsSending s command tries

pub record IsSound (s : Summary) : Type 0 where
  pub setup : IsSetup s.setup
  pub formats : length s.formats ≡ 8
  pub stage : IsStage s s.stage
