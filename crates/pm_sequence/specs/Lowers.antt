-- Whether a step lowers an output that is on: this project's own choice.
use Rattle.std.specs.Prelude.{ℕ, Bool, false, nat_lt, if◌then◌else◌, Option, Some, None, option_and_then}
use Rattle.pm_num.specs.AnyFormat.{Shape, shape_value}
use Rattle.pm_num.specs.Ratio.{is_above}
use Rattle.pm_table.specs.declared.cell.Cell.TheVariants.{Out}
use Rattle.pm_table.specs.declared.reg.Reg.{Reg}
use Rattle.pm_table.specs.declared.reg.Reg.TheVariants.{Operation}
use Rattle.pm_table.specs.Operation.{selected_register}
use Rattle.pm_host.specs.Summary.{Summary, format_at, possible_at}
use Rattle.pm_limits.specs.declared.band.Band.{Band}
use Rattle.pm_limits.specs.declared.part_registers.PartRegisters.{PartRegisters}
use Rattle.pm_limits.specs.Band.{band_at}
use Rattle.pm_limits.specs.Guard.{Guarded}
use Rattle.pm_rail.specs.declared.power.Power.{Power}
use Rattle.pm_rail.specs.declared.power.Power.TheVariants as power
use Rattle.pm_rail.specs.declared.power.Selected.{Selected}
use Rattle.pm_rail.specs.declared.power.Selected.TheVariants as selected
use Rattle.pm_rail.specs.Rail.{power_of, selected_of}
use Rattle.pm_rail.specs.Registers.{wants_of}
use Rattle.pm_stairs.specs.declared.stairs.Under.{Under}
use Rattle.pm_stairs.specs.declared.step.WordAct.{WordAct}
use Rattle.pm_stairs.specs.declared.step.WordAct.TheVariants.{Sets, Turns, Nothing}
use Rattle.pm_stairs.specs.WayBack.{goal_of_step}

-- the register that has an output's voltage once a step is over: the one that its byte selects, or that OPERATION selects as it is
abbrev pub register_by : Selected → Option Reg
register_by (selected.Register register) = Some register
register_by selected.AvsBus = None
register_by selected.NotKnown = None

abbrev pub register_after : Summary → ℕ → WordAct → Option Reg
register_after s output (Turns byte) = Some (selected_register byte)
register_after s output (Sets words) = register_by (selected_of (possible_at s (Out output Operation)))
register_after s output Nothing = None

-- the word that the step gives that register, or that a byte selects which it turns the output to
abbrev pub word_after : Summary → ℕ → WordAct → Option ℕ
word_after s output act =
    option_and_then (λ words. option_and_then (λ register. wants_of words register) (register_after s output act))
    (goal_of_step s output act)

-- a word is below the most that the output may command
abbrev pub is_lower : Option Band → Option Shape → ℕ → Bool
is_lower None shape word = false
is_lower (Some band) None word = false
is_lower (Some band) (Some shape) word = is_above band.greatest (shape_value shape word)

-- an output with this power is ordered such a word
abbrev pub is_lowered : PartRegisters → Summary → ℕ → Power → Option ℕ → Bool
is_lowered part s output power.On (Some word) = is_lower (band_at part s output) (format_at s output) word
is_lowered part s output power.On None = false
is_lowered part s output power.Off word = false
is_lowered part s output power.NotKnown word = false

abbrev pub lowers_at : PartRegisters → Summary → ℕ → WordAct → Bool
lowers_at part s output act = is_lowered part s output (power_of (possible_at s (Out output Operation))) (word_after s output act)

-- the step that begins lowers its output, by what its host knows then
abbrev pub lowers : Guarded → Option Under → Bool
lowers g None = false
lowers g (Some under) = if nat_lt under.step.output 8 then lowers_at g.registers g.host under.step.output under.step.act else false
