-- Which registers a byte of OPERATION selects.
use Rattle.std.specs.Prelude.{ℕ, Some, None}
use Rattle.std.specs.Option.{option_map_or}
use Rattle.pm_table.specs.declared.operation.Operation.TheVariants as asked
use Rattle.pm_table.specs.declared.reg.Reg.{Reg}
use Rattle.pm_table.specs.declared.reg.Reg.TheVariants.{VoutCommand, MarginHigh, MarginLow}
use Rattle.pm_table.specs.Operation.{operation_of, register_for, selected_register}

-- what holds of VOUT_COMMAND and of both margins holds of the register that a byte selects
pub each-selected : (P : Reg → Type 0) → P VoutCommand → P MarginHigh → P MarginLow → (byte : ℕ) → P (selected_register byte)
each-selected P command high low byte = elim (operation_of byte) as (λ o. P (option_map_or register_for o VoutCommand)) [
  | None ↦ command
  | Some o ↦ elim o as (λ a. P (register_for a)) [
    | asked.Off ↦ command
    | asked.On ↦ command
    | asked.MarginLow ↦ low
    | asked.MarginHigh ↦ high
  ]
]
