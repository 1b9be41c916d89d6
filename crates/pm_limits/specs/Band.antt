-- Between which voltages an output may be, by what a host knows: the band. This project's own choice.
use Rattle.std.specs.Prelude.{◌<◌, ◌/◌, ◌%◌, ◌==◌, ℕ, Bool, true, false, not, ◌&&◌, ◌||◌, if◌then◌else◌, List, [], ◌∷◌, Option, Some, None}
use Rattle.std.specs.Prelude.{option_map}
use Rattle.std.specs.List.{list_any}
use Rattle.std.specs.Option.{option_map_or}
use Rattle.pm_num.specs.AnyFormat.{Shape, shape_value}
use Rattle.pm_num.specs.Ratio.{Ratio, IsBetween, is_above, micros}
use Rattle.pm_table.specs.declared.reg.Reg.{Reg}
use Rattle.pm_table.specs.declared.reg.Reg.TheVariants.{Operation, VoutMax, VoutMin}
use Rattle.pm_table.specs.declared.cell.Cell.TheVariants.{Out}
use Rattle.pm_table.specs.Cell.{is_operation, same_register}
use Rattle.pm_model.specs.Commanded.{selected_register, limited}
use Rattle.pm_host.specs.declared.knowledge.Possible.{Possible}
use Rattle.pm_host.specs.declared.knowledge.Possible.TheVariants.{Any, Words}
use Rattle.pm_host.specs.Possible.{only}
use Rattle.pm_host.specs.Summary.{Summary, possible_at, format_at}
use Rattle.pm_limits.specs.declared.band.Band.{Band}
use Rattle.pm_limits.specs.declared.part_registers.PartRegisters.{PartRegisters}
use Rattle.pm_limits.specs.declared.ends.Side.{Side}
use Rattle.pm_limits.specs.declared.ends.Side.TheVariants.{Lowest, Highest}
use Rattle.pm_limits.specs.declared.guard.Within.{Within}
use Rattle.pm_limits.specs.declared.guard.Within.TheVariants.{Yes, No, NotKnown, NoLimits}
use Rattle.pm_limits.specs.declared.output_limits.OutputLimits.{OutputLimits}
use Rattle.pm_limits.specs.declared.output_limits.OutputLimits.TheVariants.{Unknown, Unlimited, Between}
use Rattle.pm_limits.specs.Bounds.{Bounds}
use Rattle.pm_limits.specs.Ends.{farthest_word, farthest_of}
use Rattle.pm_limits.specs.Part.{missing_word}

-- the values of all words have positive denominators, as in each format that a device has or a host learns
abbrev pub HasDens : Shape → Type 0
HasDens shape = (word : ℕ) → 0 < (shape_value shape word).den

-- what each register of an output may hold
abbrev pub Known : Type 0
Known = Reg → Possible

-- What each may hold by what a host knows of a part with these registers, in a format: a missing VOUT_MIN and a missing
-- VOUT_MAX the one word at which it stands. A missing margin is never read, and may hold any word.
abbrev pub known_of_output : PartRegisters → Shape → Summary → ℕ → Known
known_of_output registers shape s output = λ register.
    option_map_or only (missing_word registers shape register) (possible_at s (Out output register))

-- the word of a voltage, of those that it may hold, whose value lies farthest out
abbrev pub word_end : Side → Shape → Known → Reg → ℕ
word_end side shape known register = farthest_word side shape (shape_value shape) (known register)

-- one byte for each register that a byte of OPERATION selects
abbrev pub each_selection : List ℕ
each_selection = 0x80 ∷ 0xA8 ∷ 0x94 ∷ []

-- a byte that OPERATION doesn't take, and one of these whose bits 5 and 4 hand the voltage to AVSBus (PMBus 1.3 Part II)
abbrev pub is_untaken : ℕ → Bool
is_untaken byte = not (is_operation byte)

abbrev pub selects_avsbus : ℕ → Bool
selects_avsbus byte = is_untaken byte && (byte / 16) % 4 == 0b11

-- The bytes that OPERATION may be, as far as it matters: one for each register that a byte selects where it may be any,
-- or one that it doesn't take, of which nobody knows what it selects.
abbrev pub operations : Possible → List ℕ
operations Any = each_selection
operations (Words words) = if list_any is_untaken words.items then each_selection else words.items

-- another than the registers that are spoken of here may decide the voltage
abbrev pub may_select_avsbus : Possible → Bool
may_select_avsbus Any = false
may_select_avsbus (Words words) = list_any selects_avsbus words.items

-- how far out a byte of OPERATION reaches: to the end of the register that it selects
abbrev pub reach : Side → Shape → Known → ℕ → Ratio
reach side shape known byte = shape_value shape (word_end side shape known (selected_register byte))

-- the byte of several that reaches farthest
abbrev pub operation_end : Side → Shape → Known → List ℕ → ℕ
operation_end side shape known bytes = farthest_of side (reach side shape known) bytes

-- how far out the output may command with one of these bytes in OPERATION: as far as the farthest of them reaches,
-- cut to the ends of VOUT_MIN and VOUT_MAX
unfoldable pub end_with : Side → Shape → Known → List ℕ → Ratio
end_with side shape known bytes =
    limited (reach side shape known (operation_end side shape known bytes))
    (shape_value shape (word_end side shape known VoutMin))
    (shape_value shape (word_end side shape known VoutMax))

abbrev pub band_with : Shape → Known → List ℕ → Band
band_with shape known bytes = record {
  least = end_with Lowest shape known bytes;
  greatest = end_with Highest shape known bytes;
}

-- The band of an output. None where the format isn't known, or OPERATION may be a byte by which no register of the
-- output decides.
abbrev pub band_at : PartRegisters → Summary → ℕ → Option Band
band_at registers s output =
    if may_select_avsbus (possible_at s (Out output Operation)) then None
    else option_map
    (λ shape. band_with shape (known_of_output registers shape s output) (operations (possible_at s (Out output Operation))))
    (format_at s output)

-- what it would be with this byte in OPERATION, one that it takes
abbrev pub band_on : PartRegisters → Summary → ℕ → ℕ → Option Band
band_on registers s output byte = option_map
    (λ shape. band_with shape (known_of_output registers shape s output) (byte ∷ []))
    (format_at s output)

-- a value lies in a band, whose ends count as in it
abbrev pub InBand : Band → Ratio → Type 0
InBand band value = IsBetween band.least band.greatest value

-- the end of a band on one side
abbrev pub side_end : Side → Band → Ratio
side_end Lowest band = band.least
side_end Highest band = band.greatest

-- a band lies within limits: wholly, or not at all; where it does neither, nothing is known
abbrev pub band_within : Bounds → Band → Within
band_within bounds band =
    if not (is_above (micros bounds.least) band.least || is_above band.greatest (micros bounds.most)) then Yes
    else (if is_above (micros bounds.least) band.greatest || is_above band.least (micros bounds.most) then No
    else NotKnown)

-- whether a band that may be unknown lies within limits, if there are any
abbrev pub within_of : OutputLimits → Option Band → Within
within_of Unknown band = NoLimits
within_of Unlimited band = NoLimits
within_of (Between bounds) None = NotKnown
within_of (Between bounds) (Some band) = band_within bounds band

abbrev pub is_yes : Within → Bool
is_yes Yes = true
is_yes _ = false

abbrev pub is_no : Within → Bool
is_no No = true
is_no _ = false

-- limits let an output be on with a band that lies within them, and with any band if it is said to have none
abbrev pub lets_on : OutputLimits → Option Band → Bool
lets_on Unknown band = false
lets_on Unlimited band = true
lets_on (Between bounds) band = is_yes (within_of (Between bounds) band)

-- the registers that a band rests on: OPERATION, both limits, and those that a byte of OPERATION may select
abbrev pub is_selected : List ℕ → Reg → Bool
is_selected bytes register = list_any (λ byte. same_register (selected_register byte) register) bytes

abbrev pub decides : Known → Reg → Bool
decides known register = list_any (same_register register) (Operation ∷ VoutMax ∷ VoutMin ∷ [])
    || is_selected (operations (known Operation)) register

-- the word with which each register lets the output command an end of its band
abbrev pub end_choice : Side → Shape → Known → Reg → ℕ
end_choice side shape known Operation = operation_end side shape known (operations (known Operation))
end_choice side shape known register = word_end side shape known register
