-- The letters and the names of the host's refusals, as programs print them: `H6 TooUncertain`. This
-- project's own choice.
use Rattle.std.specs.Prelude.{ℕ, List, codes}
use Rattle.pm_num.specs.FaultWords.{num_fault_number, num_fault_words}
use Rattle.pm_host.specs.declared.fault.HostFault.{HostFault}
use Rattle.pm_host.specs.declared.fault.HostFault.TheVariants.{OutputCount, Passes, Busy, UnknownOutput, BadWord, TooUncertain}
use Rattle.pm_host.specs.declared.fault.HostFault.TheVariants.{FormatUnknown, Num}
use Rattle.pm_host.specs.declared.fault.Untold.{Untold}
use Rattle.pm_host.specs.declared.fault.Untold.TheVariants.{NothingSent, WrongKind}

-- the fault of a number is told as that
abbrev pub host_fault_words : HostFault → List ℕ
host_fault_words OutputCount = codes "H1 OutputCount"
host_fault_words Passes = codes "H2 Passes"
host_fault_words Busy = codes "H3 Busy"
host_fault_words UnknownOutput = codes "H4 UnknownOutput"
host_fault_words BadWord = codes "H5 BadWord"
host_fault_words TooUncertain = codes "H6 TooUncertain"
host_fault_words FormatUnknown = codes "H7 FormatUnknown"
host_fault_words (Num fault) = num_fault_words fault

-- the number of a fault as `pmhost.h` has it, which no other fault has
abbrev pub host_fault_number : HostFault → ℕ
host_fault_number OutputCount = 1
host_fault_number Passes = 2
host_fault_number Busy = 3
host_fault_number UnknownOutput = 4
host_fault_number BadWord = 5
host_fault_number TooUncertain = 6
host_fault_number FormatUnknown = 7
host_fault_number (Num fault) = num_fault_number fault

-- why a host can't be told what became of a frame
abbrev pub untold_words : Untold → List ℕ
untold_words NothingSent = codes "S2 NothingSent"
untold_words WrongKind = codes "S3 WrongKind"
