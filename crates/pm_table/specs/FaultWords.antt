-- The letters and the names of the faults of VOUT_MODE bytes, as programs print them. This project's
-- own choice.
use Rattle.std.specs.Prelude.{ℕ, List, codes}
use Rattle.pm_table.specs.declared.fault.TableFault.{TableFault}
use Rattle.pm_table.specs.declared.fault.TableFault.TheVariants.{VidMode, HalfMode, RelativeMode, BadParameter}

abbrev pub table_fault_words : TableFault → List ℕ
table_fault_words VidMode = codes "C1 VidMode"
table_fault_words HalfMode = codes "C2 HalfMode"
table_fault_words RelativeMode = codes "C3 RelativeMode"
table_fault_words BadParameter = codes "C4 BadParameter"
