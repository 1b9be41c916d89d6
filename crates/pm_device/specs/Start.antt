-- How a converter starts, and which configurations are refused. The refusals and their order are
-- this project's own choice.
use Rattle.std.specs.Prelude.{◌≡◌, ℕ, ◌+◌, ◌≤◌, ◌<◌, Bool, true, false, not, ◌||◌, ◌==◌, nat_lt, if◌then◌else◌, List, [], ◌∷◌, map, take}
use Rattle.std.specs.Prelude.{find, length, slice_index, slice_index_or, Option, Some, None, Result, Ok, Err}
use Rattle.std.specs.List.{list_any}
use Rattle.std.specs.Option.{option_map, option_or}
use Rattle.std.specs.Result.{result_err}
use Rattle.pm_num.specs.AnyFormat.{shape_of}
use Rattle.pm_num.specs.declared.any_format.AnyFormat.{AnyFormat}
use Rattle.pm_num.specs.declared.any_format.AnyFormat.TheVariants.{Linear11}
use Rattle.pm_num.specs.declared.fault.NumFault.{NumFault}
use Rattle.pm_table.specs.declared.reg.Reg.{Reg}
use Rattle.pm_table.specs.declared.reg.Reg.TheVariants.{Operation, VoutCommand, VoutMax, MarginHigh, MarginLow, VoutMin}
use Rattle.pm_table.specs.declared.cell.Cell.{Cell}
use Rattle.pm_table.specs.declared.cell.Cell.TheVariants.{Out, Protect}
use Rattle.pm_table.specs.declared.vout_mode.VoutMode.{VoutMode}
use Rattle.pm_table.specs.declared.vout_mode.VoutMode.TheVariants.{Linear, Direct}
use Rattle.pm_table.specs.declared.fault.TableFault.{TableFault}
use Rattle.pm_table.specs.Address.{IsAddress}
use Rattle.pm_table.specs.Cell.{cell_accepts, register_accepts, registers, IsCell}
use Rattle.pm_table.specs.VoutMode.{mode_of}
use Rattle.pm_table.specs.Format.{shape_in}
use Rattle.pm_table.specs.Rules.{rule}
use Rattle.pm_model.specs.Settings.{Words, words_given_by}
use Rattle.pm_device.specs.declared.config.Config.{Config}
use Rattle.pm_device.specs.declared.output_start.OutputStart.{OutputStart}
use Rattle.pm_device.specs.declared.config_fault.ConfigFault.{ConfigFault}
use Rattle.pm_device.specs.declared.config_fault.ConfigFault.TheVariants.{OutputCount, BadStart, Address, BadMode, BadCoefficients}
use Rattle.pm_device.specs.Held.{shape_made, shape_for}

-- the start word of a register
abbrev pub register_start : Reg → OutputStart → ℕ
register_start Operation start = start.operation
register_start VoutCommand start = start.command
register_start VoutMax start = start.max
register_start MarginHigh start = start.high
register_start MarginLow start = start.low
register_start VoutMin start = start.min

-- the start with this VOUT_MODE byte and these words of its registers
abbrev pub start_with_words : ℕ → (Reg → ℕ) → OutputStart
start_with_words mode word = record {
  mode = mode;
  operation = word Operation;
  command = word VoutCommand;
  max = word VoutMax;
  high = word MarginHigh;
  low = word MarginLow;
  min = word VoutMin;
}

-- an output's start words, in the order of its registers
abbrev pub start_row : OutputStart → List ℕ
start_row start = map (λ register. register_start register start) registers

-- the start word of a cell
abbrev pub start_word : Config → Cell → ℕ
start_word config (Out output register) =
    slice_index (map (register_start register) config.starts) output
start_word config Protect = config.protect

-- the words of the cells as a converter starts
unfoldable pub start_words : Config → Words
start_words config = words_given_by (start_word config)

-- the starts of the outputs that there are
abbrev pub outputs : Config → List OutputStart
outputs config = take config.count config.starts

-- the VOUT_MODE byte is that of the DIRECT format, 40h
abbrev pub is_direct : Result VoutMode TableFault → Bool
is_direct (Ok Direct) = true
is_direct (Ok (Linear n)) = false
is_direct (Err fault) = false

-- some output is DIRECT
abbrev pub has_direct : Config → Bool
has_direct config = list_any (λ start. is_direct (mode_of start.mode)) (outputs config)

-- a start that stands for an output that isn't there
abbrev pub no_start : OutputStart
no_start = start_with_words 0 (λ register. 0)

-- an output's first register that doesn't accept its start word
abbrev pub bad_register : ℕ → OutputStart → Option Cell
bad_register output start = option_map (λ register. Out output register)
    (find (λ register. not (register_accepts register (register_start register start))) registers)

-- the first such of outputs numbered from this one on
abbrev pub bad_registers : ℕ → List OutputStart → Option Cell
bad_registers output [] = None
bad_registers output (start ∷ starts) =
    option_or (bad_register output start) (bad_registers (output + 1) starts)

-- the first cell that doesn't accept its start word: outputs in order, WRITE_PROTECT last
abbrev pub bad_start : Config → Option Cell
bad_start config = option_or (bad_registers 0 (outputs config))
    (if cell_accepts Protect config.protect then None else Some Protect)

-- the first of outputs numbered from this one on whose VOUT_MODE isn't one that is taken
abbrev pub bad_mode : ℕ → List OutputStart → Option ConfigFault
bad_mode output [] = None
bad_mode output (start ∷ starts) =
    option_or (option_map (λ fault. BadMode output fault) (result_err (mode_of start.mode)))
    (bad_mode (output + 1) starts)

-- why the coefficients are no format, where some output needs them
abbrev pub bad_coefficients : Config → Option NumFault
bad_coefficients config =
    if has_direct config then result_err (shape_in Direct config.coefficients) else None

-- why no converter is made of a configuration: the first rule that applies
unfoldable pub config_fault : Config → Option ConfigFault
config_fault config =
    option_or (rule (config.count == 0 || nat_lt 8 config.count) OutputCount)
    (option_or (option_map (λ cell. BadStart cell) (bad_start config))
    (option_or (rule (nat_lt config.addr 0x08 || nat_lt 0x77 config.addr) Address)
    (option_or (bad_mode 0 (outputs config))
    (option_map (λ fault. BadCoefficients fault) (bad_coefficients config)))))

-- a configuration that is judged good: 1 to 8 outputs, an address that a device may have, start
-- words that their cells accept, and a format for each output
pub record IsSound (config : Config) : Type 0 where
  pub some : 1 ≤ config.count
  pub few : config.count ≤ 8
  pub address : IsAddress config.addr
  pub starts : (cell : Cell) → IsCell config.count cell →
      cell_accepts cell (start_word config cell) ≡ true
  pub formats : (output : ℕ) → output < config.count →
      shape_made config output ≡ Some (shape_for config output)

-- the list has the format of each output of a configuration
abbrev pub AreFormats : Config → List AnyFormat → Type 0
AreFormats config formats = (output : ℕ) → output < 8 →
    shape_of (slice_index_or formats output Linear11) ≡ shape_for config output

-- What a converter keeps true of what it keeps: its formats are those of its configuration, which is
-- sound, its settings and its store are those of as many outputs, the store has WRITE_PROTECT's start word,
-- PAGE names an output that exists, and there is a latch for each place for an output.
pub record IsKept (config : Config) (formats : List AnyFormat) (count stored protect page : ℕ) (cut : List Bool) : Type 0 where
  pub sound : IsSound config
  pub shapes : AreFormats config formats
  pub counted : count ≡ config.count
  pub store : stored ≡ config.count
  pub protection : protect ≡ config.protect
  pub selected : page < config.count
  pub latches : length cut ≡ 8
