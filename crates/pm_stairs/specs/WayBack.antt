-- Whether the step that undoes another would be refused. This project's own choice.
use Rattle.std.specs.Prelude.{ℕ, true, if◌then◌else◌, Option, Some, None, option_map, option_and_then, nat_lt}
use Rattle.std.specs.Result.{result_err}
use Rattle.pm_table.specs.declared.cell.Cell.TheVariants.{Out}
use Rattle.pm_table.specs.declared.reg.Reg.{Reg}
use Rattle.pm_table.specs.declared.reg.Reg.TheVariants.{Operation, VoutCommand, VoutMax, MarginHigh, MarginLow, VoutMin}
use Rattle.pm_table.specs.Operation.{has_on, selected_register}
use Rattle.pm_host.specs.Summary.{Summary, possible_at}
use Rattle.pm_limits.specs.Guard.{Guarded, limits_at}
use Rattle.pm_rail.specs.declared.fault.PlanFault.{PlanFault}
use Rattle.pm_rail.specs.declared.fault.PlanFault.TheVariants.{Busy, MissingRegister, FormatUnknown, BelowLimit, AboveLimit, NotKnown}
use Rattle.pm_rail.specs.declared.fault.PlanFault.TheVariants.{BelowMin, AboveMax, NoLimits, Protected}
use Rattle.pm_rail.specs.declared.wanted.Wanted.{Wanted}
use Rattle.pm_rail.specs.Known.{known_word}
use Rattle.pm_rail.specs.Orders.{plan_of}
use Rattle.pm_rail.specs.Registers.{nothing, wants_of}
use Rattle.pm_stairs.specs.declared.step.WordAct.{WordAct}
use Rattle.pm_stairs.specs.declared.step.WordAct.TheVariants.{Sets, Turns, Nothing}
use Rattle.pm_stairs.specs.declared.step.WordStep.{WordStep}

-- one word is wanted, of VOUT_COMMAND or a margin
abbrev pub one_word : Reg → ℕ → Wanted
one_word VoutCommand word = record nothing { command = Some word }
one_word MarginHigh word = record nothing { margin_high = Some word }
one_word MarginLow word = record nothing { margin_low = Some word }
one_word register word = nothing

-- the word of the register that a byte selects, where it is known
abbrev pub selected_at : Summary → ℕ → Reg → Option Wanted
selected_at s output register =
    option_map (λ word. one_word register word) (known_word (Out output register) (possible_at s (Out output register)))

-- the words that a step leads to: of a byte that leaves the output on that of the register that it selects
abbrev pub goal_of_step : Summary → ℕ → WordAct → Option Wanted
goal_of_step s output (Sets words) = Some words
goal_of_step s output (Turns byte) = if has_on byte then selected_at s output (selected_register byte) else None
goal_of_step s output Nothing = None

-- why the plan to these words is refused
abbrev pub plan_fault : Guarded → ℕ → Wanted → Option PlanFault
plan_fault g output wanted = result_err (plan_of g.registers g.host (limits_at g output) output (wants_of wanted))

-- what isn't known is no reason, since the way back reads it
abbrev pub lasting : PlanFault → Option PlanFault
lasting Busy = None
lasting (MissingRegister register) = Some (MissingRegister register)
lasting FormatUnknown = None
lasting (NoLimits register) = Some (NoLimits register)
lasting (BelowLimit register) = Some (BelowLimit register)
lasting (AboveLimit register) = Some (AboveLimit register)
lasting (NotKnown cell) = None
lasting (BelowMin register) = Some (BelowMin register)
lasting (AboveMax register) = Some (AboveMax register)
lasting (Protected register) = Some (Protected register)

-- Why a way back would be refused, by the words that are known as the step begins which it undoes: they are those that it leads to.
unfoldable pub way_back_fault : Guarded → WordStep → Option PlanFault
way_back_fault g back = if nat_lt back.output 8
    then option_and_then (λ wanted. option_and_then lasting (plan_fault g back.output wanted))
    (goal_of_step g.host back.output back.act) else None
