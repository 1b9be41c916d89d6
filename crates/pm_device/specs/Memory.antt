-- What stands in a converter's memory, as a function of what it holds: a number without a meaning is 0. Two converters
-- that hold the same are then equal byte for byte. This project's own choice.
use Rattle.std.specs.Prelude.{ℕ, Bool, if◌then◌else◌, map}
use Rattle.pm_device.specs.declared.config.Config.{Config}
use Rattle.pm_device.specs.declared.output_start.OutputStart.{OutputStart}
use Rattle.pm_device.specs.declared.image.PartImage.{PartImage}
use Rattle.pm_device.specs.declared.image.ConfigImage.{ConfigImage}
use Rattle.pm_device.specs.declared.image.LatchesImage.{LatchesImage}
use Rattle.pm_device.specs.declared.image.OutputImage.{OutputImage}
use Rattle.pm_device.specs.declared.image.ReadingsImage.{ReadingsImage}
use Rattle.pm_device.specs.Held.{CmlFaults, Held, Measured}
use Rattle.pm_device.specs.Image.{part_image_mark, part_image_version}
use Rattle.pm_device.specs.Start.{start_row}

-- the flag of a bit
abbrev pub flag_image : Bool → ℕ
flag_image bit = if bit then 1 else 0

-- how an output starts
abbrev pub start_image : OutputStart → OutputImage
start_image start = record { mode = start.mode; unused = 0; words = start_row start }

-- what a converter is made from
abbrev pub config_image : Config → ConfigImage
config_image config = record {
  address = config.addr;
  outputs = config.count;
  r = config.coefficients.r;
  unused = 0;
  m = config.coefficients.m;
  b = config.coefficients.b;
  protect = config.protect;
  starts = map start_image config.starts;
}

-- what is latched of STATUS_CML
abbrev pub latches_image : CmlFaults → LatchesImage
latches_image faults = record {
  command = flag_image faults.command;
  unsupported = flag_image faults.«data»;
  pec = flag_image faults.pec;
  communication = flag_image faults.other_communication;
}

abbrev pub readings_image : Measured → ReadingsImage
readings_image readings = record { device = readings.device; outputs = readings.outputs }

-- a converter that holds this
abbrev pub part_image_of : Held → PartImage
part_image_of h = record {
  mark = part_image_mark;
  version = part_image_version;
  config = config_image h.config;
  page = h.page;
  unused = 0;
  latches = latches_image h.faults;
  cut = map flag_image h.cut;
  readings = readings_image h.readings;
  words = h.words;
  store = h.store;
}
