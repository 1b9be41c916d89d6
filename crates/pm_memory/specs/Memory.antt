-- What stands in a caller's memory, as a function of what it means: a number without a meaning is 0 (of a format
-- FFh), and so is each behind a count. Two hosts that mean the same are then equal byte for byte. This project's own choice.
use Rattle.std.specs.Prelude.{◌≡◌, pos, List, map, replicate, Some}
use Rattle.pm_limits.specs.declared.part_registers.PartRegisters.{PartRegisters}
use Rattle.pm_limits.specs.declared.output_limits.OutputLimits.{OutputLimits}
use Rattle.pm_limits.specs.declared.output_limits.OutputLimits.TheVariants.{Unknown, Unlimited, Between}
use Rattle.pm_limits.specs.Guard.{Guarded}
use Rattle.pm_host.specs.Memory.{image_of, IsImage}
use Rattle.pm_memory.specs.declared.guard_image.GuardImage.{GuardImage}
use Rattle.pm_memory.specs.declared.guard_image.LimitsImage.{LimitsImage}
use Rattle.pm_memory.specs.declared.guard_image.RegistersImage.{RegistersImage}
use Rattle.pm_memory.specs.Guard.{guard_of, limits_held, registers_held}
use Rattle.pm_memory.specs.Flag.{flag}

-- the limits of an output; a least above the most where none are known, and where it has none
abbrev pub limits_image : OutputLimits → LimitsImage
limits_image Unknown = record { least = pos 1; most = pos 0 }
limits_image Unlimited = record { least = pos 2; most = pos 0 }
limits_image (Between l) = record { least = l.least; most = l.most }

-- those of each output are written so
abbrev pub AreLimits : List LimitsImage → Type 0
AreLimits limits = limits ≡ map limits_image (map limits_held limits)

-- which registers a part has
abbrev pub registers_image : PartRegisters → RegistersImage
registers_image r = record {
  vout_max = flag r.vout_max;
  vout_margin_high = flag r.vout_margin_high;
  vout_margin_low = flag r.vout_margin_low;
  vout_min = flag r.vout_min;
}

-- a host, its part's registers and its limits are written so
pub record IsMemory (image : GuardImage) : Type 0 where
  pub host : IsImage image.host
  pub registers : image.registers ≡ registers_image (registers_held image.registers)
  pub unused : image.unused ≡ replicate 3 0
  pub limits : AreLimits image.limits

-- the memory of a host with limits
abbrev pub memory_of : Guarded → GuardImage
memory_of g = record {
  host = image_of g.host;
  registers = registers_image g.registers;
  unused = replicate 3 0;
  limits = map limits_image g.limits;
}

-- Memory that is written so is that of the host that it means: two hosts that mean the same have equal memories.
pub record MemoriesAreMeanings : Type 0 where
  pub meant : (image : GuardImage) (g : Guarded) → IsMemory image → guard_of image ≡ Some g → image ≡ memory_of g
  pub equal : (a b : GuardImage) (g : Guarded) → IsMemory a → IsMemory b → guard_of a ≡ Some g → guard_of b ≡ Some g → a ≡ b
