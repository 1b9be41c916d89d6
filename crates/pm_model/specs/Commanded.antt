-- What an output commands by its settings: OPERATION of PMBus 1.3 Part II names the word that is
-- selected, and VOUT_MAX and VOUT_MIN limit its value. Values are compared as fractions and never as
-- words. That VOUT_MAX decides where VOUT_MIN is above it is this project's own choice.
use Rattle.std.specs.Prelude.{◌≡◌, ℕ, Bool, ◌||◌, ◌&&◌, if◌then◌else◌, List, slice_index_or}
use Rattle.pm_num.specs.Ratio.{Ratio}
pub use Rattle.pm_num.specs.Ratio.{is_above}
use Rattle.pm_num.specs.AnyFormat.{any_value}
use Rattle.pm_num.specs.declared.any_format.AnyFormat.{AnyFormat}
use Rattle.pm_num.specs.declared.any_format.AnyFormat.TheVariants.{Linear11}
use Rattle.pm_table.specs.declared.reg.Reg.TheVariants.{Operation, VoutMax, VoutMin}
use Rattle.pm_table.specs.declared.cell.Cell.TheVariants.{Out}
pub use Rattle.pm_table.specs.Operation.{selected_register}
use Rattle.pm_model.specs.Settings.{Words, word_at}

-- the word that an output's OPERATION selects
unfoldable pub selected : Words → ℕ → ℕ
selected words output =
    word_at words (Out output (selected_register (word_at words (Out output Operation))))

-- the words by which an output commands are the same in both: the selected one and those of its limits
pub record CommandAlike (words others : Words) (output : ℕ) : Type 0 where
  pub selected : selected words output ≡ selected others output
  pub most : word_at words (Out output VoutMax) ≡ word_at others (Out output VoutMax)
  pub least : word_at words (Out output VoutMin) ≡ word_at others (Out output VoutMin)

-- a selected value is above the greatest value, or below the least one
abbrev pub is_outside : Ratio → Ratio → Ratio → Bool
is_outside selected least greatest = is_above selected greatest || is_above least selected

-- a selected value cut to its limits, the least value and the greatest one: where the least is above
-- the greatest, what is outside is cut to the greatest
abbrev pub limited : Ratio → Ratio → Ratio → Ratio
limited selected least greatest =
    if is_above selected greatest || is_above least selected && is_above least greatest then greatest
    else (if is_above least selected then least else selected)

-- what an output's words stand for
abbrev pub Scale : Type 0
Scale = ℕ → Ratio

-- the selected value of an output, that of its VOUT_MIN, and that of its VOUT_MAX
abbrev pub selected_value : Scale → Words → ℕ → Ratio
selected_value value words output = value (selected words output)

abbrev pub least_value : Scale → Words → ℕ → Ratio
least_value value words output = value (word_at words (Out output VoutMin))

abbrev pub greatest_value : Scale → Words → ℕ → Ratio
greatest_value value words output = value (word_at words (Out output VoutMax))

-- the selected value is outside its limits
unfoldable pub is_cut : Scale → Words → ℕ → Bool
is_cut value words output = is_outside (selected_value value words output)
    (least_value value words output) (greatest_value value words output)

-- the voltage that an output commands: the selected value, cut to those of VOUT_MIN and VOUT_MAX
unfoldable pub commanded : Scale → Words → ℕ → Ratio
commanded value words output = limited (selected_value value words output)
    (least_value value words output) (greatest_value value words output)

-- what the words of an output stand for by a list of formats
abbrev pub scale_at : List AnyFormat → ℕ → Scale
scale_at formats output = any_value (slice_index_or formats output Linear11)
