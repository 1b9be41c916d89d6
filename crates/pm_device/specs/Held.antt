-- What a converter was made with and what it holds: the words of its cells, its store, PAGE, the readings, and
-- the status bits that are latched.
use Rattle.std.specs.Prelude.{ℕ, Bool, false, ◌||◌, ◌&&◌, ◌==◌, nat_lt, List, [], ◌∷◌, length, position, Option, is_some, map, replicate}
use Rattle.std.specs.Prelude.{slice_index, slice_index_or, slice_set, unwrap_or}
use Rattle.std.specs.Option.{option_and_then, option_map_or}
use Rattle.std.specs.Result.{result_ok}
use Rattle.pm_num.specs.AnyFormat.{Shape, InLinear11, shape_value}
use Rattle.pm_num.specs.Ratio.{Ratio}
use Rattle.pm_table.specs.Codes as command
use Rattle.pm_table.specs.VoutMode.{mode_of}
use Rattle.pm_table.specs.Format.{shape_in}
use Rattle.pm_model.specs.Settings.{Words}
use Rattle.pm_device.specs.declared.config.Config.{Config}

-- the READ codes of the device, and those of each output (PMBus 1.3 Part II). These lists stand here alone, and
-- every other question on readings asks them
abbrev pub device_readings : List ℕ
device_readings = command.read_vin ∷ command.read_temperature_1 ∷ []

abbrev pub output_readings : List ℕ
output_readings = command.read_vout ∷ command.read_iout ∷ []

-- the words that they answer, in the order of these lists: one for a code of the device, and one for each of
-- the eight places for an output for a code of an output
pub record Measured : Type 0 where
  pub device : List ℕ
  pub outputs : List (List ℕ)

-- the readings as they begin
abbrev pub no_readings : Measured
no_readings = record {
  device = replicate (length device_readings) 0;
  outputs = replicate (length output_readings) (replicate 8 0);
}

-- the place of a code in a list of codes
abbrev pub place_among : List ℕ → ℕ → Option ℕ
place_among readings code = position (λ reading. reading == code) readings

-- a READ code of the device, and one of an output
abbrev pub is_device_reading : ℕ → Bool
is_device_reading code = is_some (place_among device_readings code)

abbrev pub is_output_reading : ℕ → Bool
is_output_reading code = is_some (place_among output_readings code)

-- there is such a reading at a converter with this many outputs
abbrev pub is_reading : ℕ → ℕ → ℕ → Bool
is_reading count output code =
    is_device_reading code || is_output_reading code && nat_lt output count

-- the words of a code of an output, by its place
abbrev pub reading_words_at : Measured → ℕ → List ℕ
reading_words_at readings place = slice_index_or readings.outputs place []

-- the word that a READ code answers at an output, 0 for any other code
abbrev pub reading_at : Measured → ℕ → ℕ → ℕ
reading_at readings output code =
    option_map_or (λ place. slice_index readings.device place) (place_among device_readings code)
    (option_map_or (λ place. slice_index (reading_words_at readings place) output) (place_among output_readings code) 0)

-- the readings with another word for one of them
abbrev pub with_reading : Measured → ℕ → ℕ → ℕ → Measured
with_reading readings output code word =
    option_map_or (λ place. record readings { device = slice_set readings.device place word })
    (place_among device_readings code)
    (option_map_or (λ place. record readings
    { outputs = slice_set readings.outputs place (slice_set (reading_words_at readings place) output word) })
    (place_among output_readings code) readings)

-- the bits of STATUS_CML (PMBus 1.3 Part II) that this converter can set: an unsupported command,
-- unsupported data, a wrong packet error code, another communication fault
pub record CmlFaults : Type 0 where
  pub command : Bool
  pub «data» : Bool
  pub pec : Bool
  pub other_communication : Bool

abbrev pub no_faults : CmlFaults
no_faults = record { command = false; «data» = false; pec = false; other_communication = false }

-- the whole of it; `cut` has bit 3 of STATUS_VOUT for each of the eight places for an output
pub record Held : Type 0 where
  pub config : Config
  pub words : Words
  pub store : Words
  pub page : ℕ
  pub readings : Measured
  pub cut : List Bool
  pub faults : CmlFaults

-- the VOUT_MODE byte of an output, which is fixed
abbrev pub mode_for : Config → ℕ → ℕ
mode_for config output = slice_index (map (λ start. start.mode) config.starts) output

-- the format of an output's voltages, by its VOUT_MODE and the coefficients, where it is one
abbrev pub shape_made : Config → ℕ → Option Shape
shape_made config output =
    option_and_then (λ mode. result_ok (shape_in mode config.coefficients))
    (result_ok (mode_of (mode_for config output)))

-- that format; where it is none, LINEAR11 stands for it
unfoldable pub shape_for : Config → ℕ → Shape
shape_for config output = unwrap_or (shape_made config output) InLinear11

-- what the words of an output's voltages stand for
abbrev pub value_for : Config → ℕ → ℕ → Ratio
value_for config output = shape_value (shape_for config output)
