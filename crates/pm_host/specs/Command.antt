-- The commands that a job sends until they are acknowledged, by their codes of PMBus 1.3 Part II and the
-- outputs that they name: a code and an output, or none, mean at most one of them.
use Rattle.std.specs.Prelude.{ℕ, if◌then◌else◌, ◌==◌, Option, Some, None}
use Rattle.pm_table.specs.Codes as command
use Rattle.pm_host.specs.declared.command.Command.{Command}
use Rattle.pm_host.specs.declared.command.Command.TheVariants.{ClearFaults, StoreUserAll, RestoreUserAll}

-- the command code
abbrev pub command_code : Command → ℕ
command_code (ClearFaults output) = command.clear_faults
command_code StoreUserAll = command.store_user_all
command_code RestoreUserAll = command.restore_user_all

-- the output that it names; the device's commands name none
abbrev pub command_output : Command → Option ℕ
command_output (ClearFaults output) = Some output
command_output _ = None

-- the command of a code, at an output or at the device
abbrev pub command_of_code : ℕ → Option ℕ → Option Command
command_of_code code (Some output) =
    if code == command.clear_faults then Some (ClearFaults output) else None
command_of_code code None =
    if code == command.store_user_all then Some StoreUserAll
    else (if code == command.restore_user_all then Some RestoreUserAll else None)
