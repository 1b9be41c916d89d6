-- What the laws of this crate say, each by a name that a crate above takes it by.
use Rattle.std.specs.Prelude.{◌≡◌, ℕ, ◌<◌, ◌≤◌, false, List, if◌then◌else◌}
use Rattle.pm_table.specs.declared.cell.Cell.{Cell}
use Rattle.pm_table.specs.Cell.{same_cell, IsCell}
use Rattle.pm_table.specs.declared.reg.Reg.{Reg}
use Rattle.pm_table.specs.declared.cell.Cell.TheVariants.{Out, Protect}
use Rattle.pm_model.specs.Settings.{Settings, Words, AreWords, word_at, with_word, with_outputs, words_given_by, HaveSameRegisters}
use Rattle.pm_model.specs.Commanded.{CommandAlike, Scale, commanded, greatest_value, least_value, is_above, is_cut}
use Rattle.pm_model.specs.OrderMachine.{Step, IsAccepted, IsOwnWordOfMachine, IsRun, machine_of}

-- the words of the cells of eight outputs are a map: a cell that was written has the new word and
-- every other cell its old one; a write leaves a word for each cell; the same write again changes
-- nothing, and neither does that of the existing word; any words can be given to the cells, and no
-- two maps give each cell the same one; the outputs' words can be had from another map, with
-- WRITE_PROTECT's own
pub record SettingsAreAMap : Type 0 where
  pub read : (words : Words) (cell other : Cell) (word : ℕ) →
      AreWords words → IsCell 8 cell → IsCell 8 other →
      word_at (with_word words cell word) other
      ≡ (if same_cell cell other then word else word_at words other)
  pub kept : (words : Words) (cell : Cell) (word : ℕ) →
      AreWords words → AreWords (with_word words cell word)
  pub again : (words : Words) (cell : Cell) (word : ℕ) →
      with_word (with_word words cell word) cell word ≡ with_word words cell word
  pub unchanged : (words : Words) (cell : Cell) → AreWords words → IsCell 8 cell →
      with_word words cell (word_at words cell) ≡ words
  pub made : (word : Cell → ℕ) → AreWords (words_given_by word)
      × ((cell : Cell) → IsCell 8 cell → word_at (words_given_by word) cell ≡ word cell)
  pub one : (words : Words) (word : Cell → ℕ) → AreWords words →
      ((cell : Cell) → IsCell 8 cell → word_at words cell ≡ word cell) →
      words ≡ words_given_by word
  pub whole : (words others : Words) → AreWords others → AreWords (with_outputs words others)
  pub outputs : (words others : Words) (output : ℕ) (register : Reg) → AreWords others → output < 8 →
      word_at (with_outputs words others) (Out output register) ≡ word_at others (Out output register)
  pub protect : (words others : Words) → AreWords others →
      word_at (with_outputs words others) Protect ≡ word_at words Protect

-- what an output commands, and whether it is cut, depends on three words alone: the selected one, that
-- of VOUT_MAX and that of VOUT_MIN; and these are the output's own
pub record OutputsStandAlone : Type 0 where
  pub own : (words others : Words) (output : ℕ) →
      HaveSameRegisters words others output → CommandAlike words others output
  pub commanded : (value : Scale) (words others : Words) (output : ℕ) →
      CommandAlike words others output →
      commanded value words output ≡ commanded value others output
  pub cut : (value : Scale) (words others : Words) (output : ℕ) →
      CommandAlike words others output →
      is_cut value words output ≡ is_cut value others output

-- no output commands a value above that of its VOUT_MAX, and none below that of its VOUT_MIN unless
-- that is above the one of VOUT_MAX
pub record CommandsAreLimited : Type 0 where
  pub most : (value : Scale) (words : Words) (output : ℕ) →
      is_above (commanded value words output) (greatest_value value words output) ≡ false
  pub least : (value : Scale) (words : Words) (output : ℕ) →
      is_above (least_value value words output) (greatest_value value words output) ≡ false →
      is_above (least_value value words output) (commanded value words output) ≡ false

-- in a run of the order machine, which starts with a word for each cell of at most eight outputs,
-- each cell that there is has its start word or one that was accepted for that very cell, and so has the
-- store, where WRITE_PROTECT keeps its start word; a pending job is one that was accepted, and the start
-- stays what it was
pub record OrdersStayInTheirCells : Type 0 where
  pub own : (start : Settings) (steps : List Step) (cell : Cell) →
      start.count ≤ 8 → AreWords start.words → IsRun start steps → IsCell start.count cell →
      IsOwnWordOfMachine start steps cell (word_at (machine_of start steps).words cell)
  pub stored : (start : Settings) (steps : List Step) (cell : Cell) →
      start.count ≤ 8 → AreWords start.words → IsRun start steps → IsCell start.count cell →
      IsOwnWordOfMachine start steps cell (word_at (machine_of start steps).store cell)
  pub protection : (start : Settings) (steps : List Step) →
      start.count ≤ 8 → AreWords start.words → IsRun start steps →
      word_at (machine_of start steps).store Protect ≡ word_at start.words Protect
  pub pending : (start : Settings) (steps : List Step) → IsRun start steps →
      IsAccepted start steps (machine_of start steps).pending
  pub start : (start : Settings) (steps : List Step) →
      (machine_of start steps).start ≡ start
