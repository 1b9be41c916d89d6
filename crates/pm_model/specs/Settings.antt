-- The settings of a converter as a map from its cells to words. Which cells there are is this
-- project's own choice.
use Rattle.std.specs.Prelude.{◌≡◌, ℕ, ◌≤◌, Bool, true, not, ◌||◌, ◌&&◌, nat_le, if◌then◌else◌, List, length, map, slice_index, slice_set}
use Rattle.std.specs.Prelude.{Option, Some, None}
use Rattle.std.specs.List.{list_all, range_with_len}
use Rattle.pm_table.specs.declared.reg.Reg.{Reg}
use Rattle.pm_table.specs.declared.cell.Cell.{Cell}
use Rattle.pm_table.specs.declared.cell.Cell.TheVariants.{Out, Protect}
use Rattle.pm_table.specs.Cell.{cell_accepts, cell_in, is_cell, place_of, places}
pub use Rattle.pm_table.specs.Cell.{IsCell, same_cell}

-- the words of the cells of eight outputs and of the device, each at the place of its cell
abbrev pub Words : Type 0
Words = List ℕ

-- how many outputs there are, and the words of the cells
pub record Settings : Type 0 where
  pub count : ℕ
  pub words : Words

-- the words that a function gives the cells
unfoldable pub words_given_by : (Cell → ℕ) → Words
words_given_by word = map (λ place. word (cell_in place)) (range_with_len 0 places)

-- there is a word for each cell
unfoldable pub AreWords : Words → Type 0
AreWords words = length words ≡ places

-- the word of a cell
unfoldable pub word_at : Words → Cell → ℕ
word_at words cell = slice_index words (place_of cell)

-- the words with another one for a cell
unfoldable pub with_word : Words → Cell → ℕ → Words
with_word words cell word = slice_set words (place_of cell) word

-- the outputs' words of others; WRITE_PROTECT keeps its own
unfoldable pub with_outputs : Words → Words → Words
with_outputs words others = with_word others Protect (word_at words Protect)

-- what a restart gives the cells, from the words in the store: each its own
abbrev pub restart_words : Words → Words
restart_words store = store

-- an output's registers have the same words in both
abbrev pub HaveSameRegisters : Words → Words → ℕ → Type 0
HaveSameRegisters words others output =
    (register : Reg) → word_at words (Out output register) ≡ word_at others (Out output register)

-- each cell that there is has a word that it accepts
abbrev pub AreAccepted : Settings → Type 0
AreAccepted settings = (cell : Cell) → IsCell settings.count cell →
    cell_accepts cell (word_at settings.words cell) ≡ true

-- the settings of a converter: one to eight outputs, and for each cell a word that it accepts
pub record AreSettings (settings : Settings) : Type 0 where
  pub some : 1 ≤ settings.count
  pub few : settings.count ≤ 8
  pub words : AreWords settings.words
  pub accepted : AreAccepted settings

-- the word at a place is one that its cell accepts, where a converter with this many outputs has the cell
abbrev pub is_accepted_at : ℕ → Words → ℕ → Bool
is_accepted_at count words place =
    not (is_cell count (cell_in place)) || cell_accepts (cell_in place) (slice_index words place)

-- the word at each place is one that its cell accepts, where a converter with this many outputs has the cell
unfoldable pub are_accepted : ℕ → Words → Bool
are_accepted count words = list_all (is_accepted_at count words) (range_with_len 0 places)

-- the settings that these words are, where a converter with this many outputs may have them
abbrev pub settings_in : ℕ → Words → Option Settings
settings_in count words =
    if nat_le 1 count && nat_le count 8 && are_accepted count words
    then Some (record { count = count; words = words }) else None
