-- The words of an output's registers, and those that are wanted of them. This project's own choice.
use Rattle.std.specs.Prelude.{ℕ, Option, Some, None}
use Rattle.pm_table.specs.declared.reg.Reg.{Reg}
use Rattle.pm_table.specs.declared.reg.Reg.TheVariants.{Operation, VoutCommand, VoutMax, MarginHigh, MarginLow, VoutMin}
use Rattle.pm_rail.specs.declared.registers.Registers.{Registers}
use Rattle.pm_rail.specs.declared.wanted.Wanted.{Wanted}

-- the word of each register of an output
abbrev pub Held : Type 0
Held = Reg → ℕ

-- the word that is wanted of each, where one is
abbrev pub Wants : Type 0
Wants = Reg → Option ℕ

abbrev pub held_by : Registers → Held
held_by r Operation = r.operation
held_by r VoutCommand = r.command
held_by r VoutMax = r.max
held_by r MarginHigh = r.margin_high
held_by r MarginLow = r.margin_low
held_by r VoutMin = r.min

-- nothing is wanted of OPERATION
abbrev pub wants_of : Wanted → Wants
wants_of w Operation = None
wants_of w VoutCommand = w.command
wants_of w VoutMax = w.max
wants_of w MarginHigh = w.margin_high
wants_of w MarginLow = w.margin_low
wants_of w VoutMin = w.min

-- no word is wanted
abbrev pub nothing : Wanted
nothing = record { command = None; max = None; margin_high = None; margin_low = None; min = None }

-- the words that are wanted, with this one for a register; none is wanted of OPERATION
abbrev pub wanted_with_word : Wanted → Reg → ℕ → Wanted
wanted_with_word w Operation word = w
wanted_with_word w VoutCommand word = record w { command = Some word }
wanted_with_word w VoutMax word = record w { max = Some word }
wanted_with_word w MarginHigh word = record w { margin_high = Some word }
wanted_with_word w MarginLow word = record w { margin_low = Some word }
wanted_with_word w VoutMin word = record w { min = Some word }
