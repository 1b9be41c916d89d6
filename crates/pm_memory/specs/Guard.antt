-- A host, which registers its part has and the limits of its outputs, as plain numbers, and what they mean. Numbers
-- that are no limits say that none are known, but for two that say that the output has none, so that memory of any bytes means
-- something. This project's own choice.
use Rattle.std.specs.Prelude.{List, map, replicate, slice_index_or, Option, option_map, is_none, if◌then◌else◌, Bool, not, ◌&&◌, ◌==◌}
use Rattle.std.specs.Prelude.{pos}
use Rattle.std.specs.Ordering.{int_eq}
use Rattle.std.specs.Option.{option_map_or}
use Rattle.pm_host.specs.declared.job.Job.{Job}
use Rattle.pm_host.specs.Image.{host_of}
use Rattle.pm_limits.specs.declared.part_registers.PartRegisters.{PartRegisters}
use Rattle.pm_limits.specs.declared.output_limits.OutputLimits.{OutputLimits}
use Rattle.pm_limits.specs.declared.output_limits.OutputLimits.TheVariants.{Unknown, Unlimited, Between}
use Rattle.pm_limits.specs.Bounds.{bounds_fault}
use Rattle.pm_limits.specs.Guard.{Guarded, ordered_output}
use Rattle.pm_memory.specs.declared.guard_image.GuardImage.{GuardImage}
use Rattle.pm_memory.specs.declared.guard_image.LimitsImage.{LimitsImage}
use Rattle.pm_memory.specs.declared.guard_image.RegistersImage.{RegistersImage}

-- the two numbers that say that an output has no limits
abbrev pub are_unlimited : LimitsImage → Bool
are_unlimited i = int_eq i.least (pos 2) && int_eq i.most (pos 0)

-- the limits that two numbers are
abbrev pub limits_held : LimitsImage → OutputLimits
limits_held i = if are_unlimited i then Unlimited
    else (if is_none (bounds_fault i.least i.most) then Between (record { least = i.least; most = i.most }) else Unknown)

-- those of each output
unfoldable pub limits_kept : GuardImage → List OutputLimits
limits_kept image = map limits_held image.limits

-- no output has limits that are known
abbrev pub unknown_limits : List OutputLimits
unknown_limits = replicate 8 Unknown

-- the limits by which a job is judged
abbrev pub job_limits : List OutputLimits → Job → OutputLimits
job_limits limits job = option_map_or (λ output. slice_index_or limits output Unlimited) (ordered_output job) Unlimited

-- which registers the part has: each whose number isn't 0
abbrev pub registers_held : RegistersImage → PartRegisters
registers_held i = record {
  vout_max = not (i.vout_max == 0);
  vout_margin_high = not (i.vout_margin_high == 0);
  vout_margin_low = not (i.vout_margin_low == 0);
  vout_min = not (i.vout_min == 0);
}

-- the guard whose image it is: a host with limits, of a part with these registers
abbrev pub guard_of : GuardImage → Option Guarded
guard_of image = option_map
    (λ s. record { host = s; limits = limits_kept image; registers = registers_held image.registers })
    (host_of image.host)
