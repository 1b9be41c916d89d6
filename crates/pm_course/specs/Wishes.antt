-- What is wanted of an output's registers: nothing, a word, or a voltage, whose word is formed by a format. This project's own
-- choice.
use Rattle.std.specs.Prelude.{◌≡◌, ℕ, ℤ, pos, Bool, true, false, not, ◌&&◌, ◌||◌, [], ◌∷◌, find, Option, Some, None, is_some}
use Rattle.std.specs.Prelude.{option_map, Result, Ok, IfOk, IsSomeAnd}
use Rattle.std.specs.Result.{result_err}
use Rattle.pm_num.specs.AnyFormat.{Shape, shape_highest, shape_lowest, shape_rank, shape_value}
use Rattle.pm_num.specs.Bounds.{IsAtLeast, IsAtMost, at_least_fault, at_most_fault}
use Rattle.pm_num.specs.FaultWords.{num_fault_number}
use Rattle.pm_num.specs.Nearest.{IsNearest}
use Rattle.pm_num.specs.Ratio.{micros}
use Rattle.pm_table.specs.declared.reg.Reg.{Reg}
use Rattle.pm_table.specs.declared.reg.Reg.TheVariants.{Operation, VoutCommand, VoutMax, MarginHigh, MarginLow, VoutMin}
use Rattle.pm_table.specs.Cell.{register_code}
use Rattle.pm_table.specs.Rules.{first, rule}
use Rattle.pm_host.specs.FaultWords.{host_fault_number}
use Rattle.pm_host.specs.Refusals.{range_fault}
use Rattle.pm_limits.specs.declared.fault.LimitFault.TheVariants.{MissingRegister}
use Rattle.pm_limits.specs.declared.part_registers.PartRegisters.{PartRegisters}
use Rattle.pm_limits.specs.FaultWords.{limit_fault_number}
use Rattle.pm_limits.specs.Part.{has_register}
use Rattle.pm_rail.specs.declared.wanted.Wanted.{Wanted}
use Rattle.pm_rail.specs.Orders.{voltages}
use Rattle.pm_rail.specs.Registers.{wants_of}
use Rattle.pm_course.specs.declared.course_end.Refusal.{Refusal}
use Rattle.pm_course.specs.declared.voltages.Voltages.{Voltages}
use Rattle.pm_course.specs.declared.wish.Wish.{Wish}
use Rattle.pm_course.specs.declared.wish.Wish.TheVariants.{Stay, Word, Microvolts}
use Rattle.pm_course.specs.declared.wish.Wishes.{Wishes}

-- each register stays as it is
abbrev pub stays_wished : Wishes
stays_wished = record { command = Stay; max = Stay; margin_high = Stay; margin_low = Stay; min = Stay }

-- the word that is wanted as such, and the voltage
abbrev pub word_in_wish : Wish → Option ℕ
word_in_wish (Word word) = Some word
word_in_wish Stay = None
word_in_wish (Microvolts x) = None

abbrev pub has_voltage : Wish → Bool
has_voltage (Microvolts x) = true
has_voltage Stay = false
has_voltage (Word word) = false

abbrev pub voltage_in : Wish → ℤ
voltage_in (Microvolts x) = x
voltage_in Stay = pos 0
voltage_in (Word word) = pos 0

abbrev pub words_in : Wishes → Wanted
words_in w = record {
  command = word_in_wish w.command;
  max = word_in_wish w.max;
  margin_high = word_in_wish w.margin_high;
  margin_low = word_in_wish w.margin_low;
  min = word_in_wish w.min;
}

abbrev pub voltages_in : Wishes → Voltages
voltages_in w = record {
  command = voltage_in w.command;
  max = voltage_in w.max;
  margin_high = voltage_in w.margin_high;
  margin_low = voltage_in w.margin_low;
  min = voltage_in w.min;
  has_command = has_voltage w.command;
  has_max = has_voltage w.max;
  has_margin_high = has_voltage w.margin_high;
  has_margin_low = has_voltage w.margin_low;
  has_min = has_voltage w.min;
}

-- no voltage is wanted; the one that is wanted of a register, none of OPERATION; and one more
abbrev pub no_voltages : Voltages
no_voltages = record {
  command = pos 0;
  max = pos 0;
  margin_high = pos 0;
  margin_low = pos 0;
  min = pos 0;
  has_command = false;
  has_max = false;
  has_margin_high = false;
  has_margin_low = false;
  has_min = false;
}

abbrev pub voltage_of : Voltages → Reg → Option ℤ
voltage_of v Operation = None
voltage_of v VoutCommand = rule v.has_command v.command
voltage_of v VoutMax = rule v.has_max v.max
voltage_of v MarginHigh = rule v.has_margin_high v.margin_high
voltage_of v MarginLow = rule v.has_margin_low v.margin_low
voltage_of v VoutMin = rule v.has_min v.min

abbrev pub with_voltage : Voltages → Reg → ℤ → Voltages
with_voltage v Operation x = v
with_voltage v VoutCommand x = record v { command = x; has_command = true }
with_voltage v VoutMax x = record v { max = x; has_max = true }
with_voltage v MarginHigh x = record v { margin_high = x; has_margin_high = true }
with_voltage v MarginLow x = record v { margin_low = x; has_margin_low = true }
with_voltage v VoutMin x = record v { min = x; has_min = true }

-- a refusal that is about a register
abbrev pub refused_at : ℕ → Reg → Refusal
refused_at number register = record { number = number; register = Some (record { 0 = register_code register }) }

-- L7: the first register of which a word or a voltage is wanted, and that the part doesn't have
abbrev pub is_missing : PartRegisters → Wanted → Voltages → Reg → Bool
is_missing part words v register =
    (is_some (wants_of words register) || is_some (voltage_of v register)) && not (has_register part register)

abbrev pub missing_at : Reg → Refusal
missing_at register = refused_at (limit_fault_number MissingRegister) register

abbrev pub missing_in : PartRegisters → Wanted → Voltages → Option Refusal
missing_in part words v = option_map missing_at (find (is_missing part words v) voltages)

-- The word of a voltage: of VOUT_MAX that of the greatest value that isn't above it, of VOUT_MIN that of the least value that
-- isn't below it, of the others the nearest one.
abbrev pub IsWordFor : Shape → Reg → ℤ → ℕ → Type 0
IsWordFor shape VoutMax x word = IsAtMost (shape_value shape) (shape_rank shape) (micros x) word
IsWordFor shape VoutMin x word = IsAtLeast (shape_value shape) (shape_rank shape) (micros x) word
IsWordFor shape register x word = IsNearest (shape_value shape) (shape_rank shape) (micros x) word

-- why a voltage has none: N5, then N3 and N4, of VOUT_MAX N3 alone and of VOUT_MIN N4 alone
abbrev pub no_word_number : Shape → Reg → ℤ → Option ℕ
no_word_number shape VoutMax x = option_map num_fault_number (at_most_fault (shape_lowest shape) x)
no_word_number shape VoutMin x = option_map num_fault_number (at_least_fault (shape_highest shape) x)
no_word_number shape register x = option_map host_fault_number (range_fault shape x)

-- what is ordered of a register: the word of the voltage that is wanted of it, or else the word that is wanted as such
abbrev pub IsMeant : Shape → Reg → Option ℤ → Option ℕ → Option ℕ → Type 0
IsMeant shape register None word meant = meant ≡ word
IsMeant shape register (Some x) word meant = IsSomeAnd meant (IsWordFor shape register x)

abbrev pub meant_fault : Shape → Reg → Option ℤ → Option Refusal
meant_fault shape register None = None
meant_fault shape register (Some x) = option_map (λ number. refused_at number register) (no_word_number shape register x)

pub record AreMeant (shape : Shape) (words : Wanted) (v : Voltages) (meant : Wanted) : Type 0 where
  pub command : IsMeant shape VoutCommand (voltage_of v VoutCommand) words.command meant.command
  pub max : IsMeant shape VoutMax (voltage_of v VoutMax) words.max meant.max
  pub margin_high : IsMeant shape MarginHigh (voltage_of v MarginHigh) words.margin_high meant.margin_high
  pub margin_low : IsMeant shape MarginLow (voltage_of v MarginLow) words.margin_low meant.margin_low
  pub min : IsMeant shape VoutMin (voltage_of v VoutMin) words.min meant.min

abbrev pub meant_faults : Shape → Voltages → Option Refusal
meant_faults shape v = first (
    meant_fault shape VoutCommand (voltage_of v VoutCommand) ∷
    meant_fault shape VoutMax (voltage_of v VoutMax) ∷
    meant_fault shape MarginHigh (voltage_of v MarginHigh) ∷
    meant_fault shape MarginLow (voltage_of v MarginLow) ∷
    meant_fault shape VoutMin (voltage_of v VoutMin) ∷
    [])

-- The words that are ordered, by the format that is known: without one those that are wanted as such. Or why a voltage has
-- none, of the first register.
abbrev pub AreFormed : Option Shape → Wanted → Voltages → Result Wanted Refusal → Type 0
AreFormed None words v formed = formed ≡ Ok words
AreFormed (Some shape) words v formed = (result_err formed ≡ meant_faults shape v) × IfOk formed (AreMeant shape words v)
