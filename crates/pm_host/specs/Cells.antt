-- The commands that a device with this many outputs has, and lists with something for each cell.
use Rattle.std.specs.Prelude.{ℕ, Bool, true, nat_lt, List, map}
use Rattle.std.specs.Option.{option_map_or}
use Rattle.std.specs.List.{range_with_len}
use Rattle.pm_table.specs.declared.cell.Cell.{Cell}
use Rattle.pm_table.specs.Cell.{cell_in}
use Rattle.pm_host.specs.declared.command.Command.{Command}
use Rattle.pm_host.specs.Command.{command_output}

-- the output that the command names, if it names one, is one of this many
abbrev pub is_command : ℕ → Command → Bool
is_command outputs command =
    option_map_or (λ output. nat_lt output outputs) (command_output command) true

-- the list that has at each of n places what f gives for its cell
unfoldable pub table : {X : Type 0} → ℕ → (Cell → X) → List X
table n f = map (λ place. f (cell_in place)) (range_with_len 0 n)
