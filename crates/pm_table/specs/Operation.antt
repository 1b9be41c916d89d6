-- What a byte of OPERATION asks for (PMBus 1.3 Part II), of those that this project takes: immediate off 00......,
-- soft off 01......, on 1000....; on with margin low 100101.. or 100110.., with margin high 101001.. or 101010..
-- (a fault ignored, or acted on). A dotted bit may be 0 or 1. That VOUT_COMMAND is selected while an output is off,
-- and by a byte that isn't taken, is this project's own choice.
use Rattle.std.specs.Prelude.{ℕ, ◌/◌, Bool, true, false, ◌||◌, ◌==◌, Option, Some, None, if◌then◌else◌, is_some}
use Rattle.std.specs.Option.{option_map_or}
use Rattle.pm_table.specs.declared.operation.Operation.{Operation}
use Rattle.pm_table.specs.declared.operation.Operation.TheVariants.{Off, On, MarginLow, MarginHigh}
use Rattle.pm_table.specs.declared.reg.Reg.{Reg}
use Rattle.pm_table.specs.declared.reg.Reg.TheVariants as register

-- what a byte asks for; nothing where it isn't taken
abbrev pub operation_of : ℕ → Option Operation
operation_of byte =
    if byte / 64 == 0b00 || byte / 64 == 0b01 then Some Off
    else (if byte / 16 == 0b1000 then Some On
    else (if byte / 4 == 0b100101 || byte / 4 == 0b100110 then Some MarginLow
    else (if byte / 4 == 0b101001 || byte / 4 == 0b101010 then Some MarginHigh
    else None)))

-- the byte is one of those that are taken
abbrev pub is_operation : ℕ → Bool
is_operation byte = is_some (operation_of byte)

-- the output is on
abbrev pub is_on : Operation → Bool
is_on Off = false
is_on _ = true

-- the register that has the voltage which is asked for
abbrev pub register_for : Operation → Reg
register_for MarginLow = register.MarginLow
register_for MarginHigh = register.MarginHigh
register_for _ = register.VoutCommand

-- a byte has the output on
abbrev pub has_on : ℕ → Bool
has_on byte = option_map_or is_on (operation_of byte) false

-- the register that a byte selects
abbrev pub selected_register : ℕ → Reg
selected_register byte = option_map_or register_for (operation_of byte) register.VoutCommand
