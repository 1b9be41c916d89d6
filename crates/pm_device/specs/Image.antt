-- The image of a converter: plain numbers in a caller's memory, and what they mean. This project's own choice.
use Rattle.std.specs.Prelude.{ℕ, Bool, ◌&&◌, ◌==◌, nat_lt, is_none, is_some, if◌then◌else◌, map, slice_index, Option, Some, None}
use Rattle.pm_table.specs.declared.cell.Cell.TheVariants.{Protect}
use Rattle.pm_table.specs.Cell.{register_number}
use Rattle.pm_model.specs.Settings.{settings_in, word_at}
use Rattle.pm_device.specs.declared.config.Config.{Config}
use Rattle.pm_device.specs.declared.output_start.OutputStart.{OutputStart}
use Rattle.pm_device.specs.declared.image.PartImage.{PartImage}
use Rattle.pm_device.specs.declared.image.ConfigImage.{ConfigImage}
use Rattle.pm_device.specs.declared.image.LatchesImage.{LatchesImage}
use Rattle.pm_device.specs.declared.image.OutputImage.{OutputImage}
use Rattle.pm_device.specs.declared.image.ReadingsImage.{ReadingsImage}
use Rattle.pm_device.specs.Held.{CmlFaults, Held, Measured}
use Rattle.pm_device.specs.Start.{config_fault, start_with_words}

-- a flag is set where it is 1
abbrev pub is_set : ℕ → Bool
is_set flag = flag == 1

-- how an output starts
abbrev pub start_held : OutputImage → OutputStart
start_held output = start_with_words output.mode (λ register. slice_index output.words (register_number register))

-- what a converter is made from
abbrev pub config_held : ConfigImage → Config
config_held image = record {
  addr = image.address;
  count = image.outputs;
  starts = map start_held image.starts;
  protect = image.protect;
  coefficients = record { m = image.m; b = image.b; r = image.r };
}

abbrev pub readings_held : ReadingsImage → Measured
readings_held image = record { device = image.device; outputs = image.outputs }

abbrev pub latches_held : LatchesImage → CmlFaults
latches_held image = record {
  command = is_set image.command;
  «data» = is_set image.unsupported;
  pec = is_set image.pec;
  other_communication = is_set image.communication;
}

-- what a converter of these numbers holds
abbrev pub held_in_image : PartImage → Held
held_in_image image = record {
  config = config_held image.config;
  words = image.words;
  store = image.store;
  page = image.page;
  readings = readings_held image.readings;
  cut = map is_set image.cut;
  faults = latches_held image.latches;
}

-- the bytes 'CT' and the number of this layout, which an image of another layout lacks
abbrev pub part_image_mark : ℕ
part_image_mark = 0x5443

abbrev pub part_image_version : ℕ
part_image_version = 1

-- the image has this layout
abbrev pub is_current_part_image : PartImage → Bool
is_current_part_image image = image.mark == part_image_mark && image.version == part_image_version

-- a converter may hold this: its configuration isn't refused, its cells and those of its store are settings of as
-- many outputs, the store has WRITE_PROTECT's start word, and PAGE names an output that is there
abbrev pub converter_may_hold : Held → Bool
converter_may_hold h = is_none (config_fault h.config)
    && ((is_some (settings_in h.config.count h.words) && is_some (settings_in h.config.count h.store))
    && (word_at h.store Protect == h.config.protect && nat_lt h.page h.config.count))

-- the converter whose image it is
unfoldable pub device_of : PartImage → Option Held
device_of image = if is_current_part_image image && converter_may_hold (held_in_image image) then Some (held_in_image image) else None
