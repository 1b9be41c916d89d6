-- The fault of a setup as programs print it: `V2 BadStart 0 OPERATION`, `H2 Passes`. This project's own
-- choice.
use Rattle.std.specs.Prelude.{ℕ, List}
use Rattle.pm_device.specs.FaultWords.{config_fault_text}
use Rattle.pm_host.specs.FaultWords.{host_fault_words}
use Rattle.pm_setup.specs.declared.setup_fault.SetupFault.{SetupFault}
use Rattle.pm_setup.specs.declared.setup_fault.SetupFault.TheVariants as setup

-- it is told as that of the end that has it
abbrev pub setup_fault_text : SetupFault → List ℕ
setup_fault_text (setup.Device fault) = config_fault_text fault
setup_fault_text (setup.Host fault) = host_fault_words fault
