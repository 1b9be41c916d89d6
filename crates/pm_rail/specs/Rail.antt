-- Whether an output is on, and which register it commands by, by what a host knows: this project's own choice.
use Rattle.std.specs.Prelude.{ℕ, Bool, true, not, ◌&&◌, if◌then◌else◌, List, [], ◌∷◌}
use Rattle.std.specs.List.{list_all}
use Rattle.pm_table.specs.declared.reg.Reg.{Reg}
use Rattle.pm_table.specs.declared.reg.Reg.TheVariants.{VoutCommand, MarginHigh, MarginLow}
use Rattle.pm_table.specs.Cell.{same_register}
use Rattle.pm_table.specs.Operation.{has_on, is_operation, selected_register}
use Rattle.pm_limits.specs.Band.{selects_avsbus}
use Rattle.pm_host.specs.declared.knowledge.Possible.{Possible}
use Rattle.pm_host.specs.declared.knowledge.Possible.TheVariants.{Any, Words}
use Rattle.pm_rail.specs.declared.power.Power.{Power}
use Rattle.pm_rail.specs.declared.power.Power.TheVariants.{On, Off, NotKnown}
use Rattle.pm_rail.specs.declared.power.Selected.{Selected}
use Rattle.pm_rail.specs.declared.power.Selected.TheVariants as selected

-- each of these bytes has the output on, and each has it off
abbrev pub are_on : List ℕ → Bool
are_on [] = true
are_on (byte ∷ bytes) = has_on byte && are_on bytes

abbrev pub is_operation_off : ℕ → Bool
is_operation_off byte = is_operation byte && not (has_on byte)

abbrev pub are_off : List ℕ → Bool
are_off [] = true
are_off (byte ∷ bytes) = is_operation_off byte && are_off bytes

-- Whether an output is on, by the bytes that OPERATION may be: not known, if its cell doesn't take one of them.
abbrev pub power_by : List ℕ → Power
power_by bytes = if are_on bytes then On else (if are_off bytes then Off else NotKnown)

abbrev pub power_of : Possible → Power
power_of Any = NotKnown
power_of (Words words) = power_by words.items

-- a byte that OPERATION takes selects this register
abbrev pub selects : Reg → ℕ → Bool
selects register byte = is_operation byte && same_register (selected_register byte) register

-- Which register has the voltage that an output is to command, by the bytes that OPERATION may be: one that each of them
-- selects, or AVSBus, which each of them selects; otherwise it isn't known.
abbrev pub selected_by : List ℕ → Selected
selected_by bytes = if list_all (selects VoutCommand) bytes then selected.Register VoutCommand
    else (if list_all (selects MarginHigh) bytes then selected.Register MarginHigh
    else (if list_all (selects MarginLow) bytes then selected.Register MarginLow
    else (if list_all selects_avsbus bytes then selected.AvsBus else selected.NotKnown)))

abbrev pub selected_of : Possible → Selected
selected_of Any = selected.NotKnown
selected_of (Words words) = selected_by words.items
