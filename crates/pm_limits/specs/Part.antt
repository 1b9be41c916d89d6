-- Which registers of an output a part has, and at which word a missing one stands. OPERATION and VOUT_COMMAND are
-- always there; of the others the standard asks none (PMBus 1.3 Part II). This project's own choice.
use Rattle.std.specs.Prelude.{ℕ, Bool, true, if◌then◌else◌, Option, Some, None}
use Rattle.pm_num.specs.AnyFormat.{Shape}
use Rattle.pm_table.specs.declared.reg.Reg.{Reg}
use Rattle.pm_table.specs.declared.reg.Reg.TheVariants.{VoutMax, MarginHigh, MarginLow, VoutMin}
use Rattle.pm_limits.specs.declared.part_registers.PartRegisters.{PartRegisters}
use Rattle.pm_limits.specs.declared.ends.Side.TheVariants.{Lowest, Highest}
use Rattle.pm_limits.specs.Ends.{format_end}

-- the part has the register
abbrev pub has_register : PartRegisters → Reg → Bool
has_register registers VoutMax = registers.vout_max
has_register registers MarginHigh = registers.vout_margin_high
has_register registers MarginLow = registers.vout_margin_low
has_register registers VoutMin = registers.vout_min
has_register registers register = true

-- it has every one
abbrev pub all_registers : PartRegisters
all_registers = record { vout_max = true; vout_margin_high = true; vout_margin_low = true; vout_min = true }

-- The word at which a missing register stands: VOUT_MIN at that of the format's least value, VOUT_MAX at that of its
-- greatest, so that neither cuts. A missing margin stands at none.
abbrev pub missing_word : PartRegisters → Shape → Reg → Option ℕ
missing_word registers shape VoutMin = if registers.vout_min then None else Some (format_end Lowest shape)
missing_word registers shape VoutMax = if registers.vout_max then None else Some (format_end Highest shape)
missing_word registers shape register = None
