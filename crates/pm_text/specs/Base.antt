-- The configuration of a converter if no scenario says another. This project's own choice.
use Rattle.std.specs.Prelude.{pos, replicate}
use Rattle.pm_device.specs.declared.config.Config.{Config}
use Rattle.pm_device.specs.declared.output_start.OutputStart.{OutputStart}
use Rattle.pm_device.specs.Start.{no_start}

-- each output: VOUT_MODE 14h (ULINEAR16, N = -12), on, 1 V asked for, at most 4 V, margins at
-- 1.0625 V and 0.9375 V, at least 0 V
abbrev pub base_output : OutputStart
base_output = record no_start {
  mode = 0x14;
  operation = 0x80;
  command = 0x1000;
  max = 0x4000;
  high = 0x1100;
  low = 0x0F00;
}

-- two such outputs at address 58h, no write blocked, and the coefficients m 1, b 0, R 0, which no
-- output uses
unfoldable pub base : Config
base = record {
  addr = 0x58;
  count = 2;
  starts = replicate 8 base_output;
  protect = 0x00;
  coefficients = record { m = pos 1; b = pos 0; r = pos 0 };
}
