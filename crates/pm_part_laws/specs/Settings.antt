-- Converters with the same settings, and what is heard that changes none: this project's own choice.
use Rattle.std.specs.Prelude.{◌≡◌, ◌≢◌, ℕ, List, map, None}
use Rattle.pm_frame.specs.declared.message.Message.TheVariants.{WriteByte}
use Rattle.pm_frame.specs.Fault.{write_fault}
use Rattle.pm_frame.specs.Layout.{IsWrite}
use Rattle.pm_table.specs.Codes as command
use Rattle.pm_device.specs.declared.config.Config.{Config}
use Rattle.pm_device.specs.declared.converter.Ending.{Ending}
use Rattle.pm_device.specs.declared.converter.Ending.TheVariants.{Stop, Restart}
use Rattle.pm_device.specs.declared.output_start.OutputStart.{OutputStart}
use Rattle.pm_device.specs.Effect as device
use Rattle.pm_device.specs.Held.{Held}

-- a converter that starts with the words of another, and has the other's PAGE, readings and latched status bits
abbrev pub moved : Held → Held → Held
moved held other = record held {
  config = record held.config { starts = other.config.starts; protect = other.config.protect };
  page = other.page;
  readings = other.readings;
  cut = other.cut;
  faults = other.faults;
}

-- the VOUT_MODE bytes of a configuration's outputs
abbrev pub modes_of : Config → List ℕ
modes_of config = map (λ (start : OutputStart). start.mode) config.starts

-- The converters are made alike, hold the same words and have the same stored. The words that they start with, PAGE, the
-- readings and the latched status bits may differ: no frame of a host depends on any of them.
pub record HaveSameSettings (one other : Held) : Type 0 where
  pub same : one ≡ moved other one
  pub modes : modes_of one.config ≡ modes_of other.config

-- the converter holds the same words and has the same stored once it heard these bytes
pub record KeepsSettings (held : Held) (bytes : List ℕ) (ending : Ending) : Type 0 where
  pub words : device.words_after held (device.Hearing bytes ending) ≡ held.words
  pub store : device.store_after held (device.Hearing bytes ending) ≡ held.store

-- Bytes that keep the settings: all that a repeated start ended, as each request is, whatever its code and page (`asks`); all that
-- are no write to the converter, as what is cut, damaged or another's (`no_write`); and a write of PAGE (`selects`).
pub record ReadsKeepSettings : Type 0 where
  pub asks : (held : Held) (bytes : List ℕ) → KeepsSettings held bytes Restart
  pub no_write : (held : Held) (bytes : List ℕ) → write_fault held.config.addr bytes ≢ None → KeepsSettings held bytes Stop
  pub selects : (held : Held) (page : ℕ) (bytes : List ℕ) → IsWrite held.config.addr (WriteByte command.page page) bytes →
      KeepsSettings held bytes Stop
