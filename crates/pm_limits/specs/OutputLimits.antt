-- What an output's voltage is limited to, as far as the caller said it: this project's own choice.
use Rattle.std.specs.Prelude.{Bool, true, false}
use Rattle.pm_limits.specs.declared.output_limits.OutputLimits.{OutputLimits}
use Rattle.pm_limits.specs.declared.output_limits.OutputLimits.TheVariants.{Unknown, Between}
use Rattle.pm_limits.specs.Bounds.{Bounds, is_wider}

-- the output has limits
abbrev pub is_limited : OutputLimits → Bool
is_limited (Between bounds) = true
is_limited limits = false

-- it has limits, or the caller said that it has none
abbrev pub are_known : OutputLimits → Bool
are_known Unknown = false
are_known limits = true

-- limits let through what those of the output don't; where it has none, none do
abbrev pub are_wider : OutputLimits → Bounds → Bool
are_wider (Between old) bounds = is_wider old bounds
are_wider limits bounds = false
