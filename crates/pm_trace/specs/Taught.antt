-- What a capture teaches of the formats of words (PMBus 1.3 Part II, VOUT_MODE and COEFFICIENTS): the last good answer to a read of
-- VOUT_MODE for each output, until the mode may have changed; for each address, each code that has a voltage and each side the last
-- good answer to COEFFICIENTS; and the addresses that answered a read of VOUT_MODE with ULINEAR16, since the readings of such a part
-- are LINEAR11. That these decide is this project's own choice.
use Rattle.std.specs.Prelude.{ℕ, ◌/◌, Bool, true, not, is_some, ◌&&◌, ◌||◌, ◌==◌, nat_eq, nat_lt, if◌then◌else◌, List, [], ◌∷◌, slice_index, Option, Some, None, Result, Ok, Err}
use Rattle.std.specs.Map.{lookup}
use Rattle.std.specs.Option.{option_or}
use Rattle.std.specs.Result.{result_ok}
use Rattle.indexmap.specs.IndexMap.{insert_entry}
use Rattle.pm_num.specs.AnyFormat.{Shape, InLinear11, InUlinear16, InDirect, shape_of}
use Rattle.pm_table.specs.Cell.{is_voltage_code}
use Rattle.pm_table.specs.Codes as command
use Rattle.pm_table.specs.Coefficients.{coefficients_of}
use Rattle.pm_table.specs.Format.{shape_in}
use Rattle.pm_table.specs.VoutMode.{exponent_of, mode_of}
use Rattle.pm_table.specs.declared.coefficients.Coefficients.{Coefficients}
use Rattle.pm_table.specs.declared.fault.TableFault.{TableFault}
use Rattle.pm_table.specs.declared.vout_mode.VoutMode.{VoutMode}
use Rattle.pm_table.specs.declared.vout_mode.VoutMode.TheVariants.{Linear, Direct}
use Rattle.pm_frame.specs.declared.message.Message.{Message}
use Rattle.pm_frame.specs.declared.message.Message.TheVariants.{SendByte, WriteByte, WriteWord, PagePlusWrite, ReadCommand, PagePlusRead, ReadCoefficients}
use Rattle.pm_trace.specs.Trace.{Judged, Accepted, Faulty, BadSyntax, BadHex}
use Rattle.pm_trace.specs.Modes.{Modes, key_of, modes_changed, modes_lost, no_modes, output_said, page_mode, paged, plain_said}
use Rattle.pm_trace.specs.declared.formats.GivenFormats.{GivenFormats}
use Rattle.pm_trace.specs.declared.formats.GivenFormat.{GivenFormat}
use Rattle.pm_trace.specs.declared.lessons.Asked.{Asked}
use Rattle.pm_trace.specs.declared.mode_changes.ModeChange.{ModeChange}

-- what was said of modes, the coefficients of each code of each address to write it and to read it, and the addresses that answered
-- with a mode of ULINEAR16
pub record Taught : Type 0 where
  pub modes : Modes
  pub to_write : List (ℕ × Coefficients)
  pub to_read : List (ℕ × Coefficients)
  pub linear : List (ℕ × Bool)

abbrev pub untaught : Taught
untaught = record { modes = no_modes; to_write = []; to_read = []; linear = [] }

-- the codes whose words are voltages of an output
abbrev pub is_output_voltage_code : ℕ → Bool
is_output_voltage_code code = is_voltage_code code || code == command.read_vout

-- ---- what a line teaches

-- a mode of ULINEAR16
abbrev pub is_ulinear16 : ℕ → Bool
is_ulinear16 byte = nat_lt byte 0x20

abbrev pub linear_taught : Taught → ℕ → ℕ → ℕ → Taught
linear_taught taught addr code byte = if code == command.vout_mode && is_ulinear16 byte
    then record taught { linear = insert_entry nat_eq taught.linear addr true } else taught

-- the mode that a packet answered with whose output is known, or isn't
abbrev pub mode_said : ℕ → Modes → ℕ → Option ℕ → ℕ → Modes
mode_said line modes addr None byte = plain_said line addr byte modes
mode_said line modes addr (Some page) byte = output_said line addr page (Some byte) modes

-- the mode of an output, in a line
abbrev pub mode_taught : ℕ → Taught → ℕ → Option ℕ → ℕ → ℕ → Taught
mode_taught line taught addr page code byte = if code == command.vout_mode
    then record taught { modes = mode_said line taught.modes addr page byte } else taught

-- side 0 is for words that are written, side 1 for words that are read, and no other one is for either
abbrev pub side_taught : Taught → ℕ → ℕ → Coefficients → Taught
side_taught taught side key coefficients =
    if side == 0 then record taught { to_write = insert_entry nat_eq taught.to_write key coefficients }
    else (if side == 1 then record taught { to_read = insert_entry nat_eq taught.to_read key coefficients } else taught)

abbrev pub coefficients_taught : Taught → ℕ → ℕ → ℕ → List ℕ → Taught
coefficients_taught taught addr code side answer = if is_output_voltage_code code
    then side_taught taught side (key_of addr code) (coefficients_of answer) else taught

-- a good answer to a request; `reached` is the output that a plain packet reaches, if it is known
abbrev pub answer_taught : ℕ → Taught → ℕ → Option ℕ → Message → List ℕ → Taught
answer_taught line taught addr reached (PagePlusRead page code) answer = mode_taught line
    (linear_taught taught addr code (slice_index answer 0)) addr (Some page) code (slice_index answer 0)
answer_taught line taught addr reached (ReadCoefficients code side) answer = coefficients_taught taught addr code side answer
answer_taught line taught addr reached (ReadCommand code) answer = mode_taught line
    (linear_taught taught addr code (slice_index answer 0)) addr reached code (slice_index answer 0)
answer_taught line taught addr reached (SendByte code) answer = taught
answer_taught line taught addr reached (WriteByte code byte) answer = taught
answer_taught line taught addr reached (WriteWord code word) answer = taught
answer_taught line taught addr reached (PagePlusWrite page code payload) answer = taught

-- what is known after a line: a write teaches nothing
abbrev pub taught_by : ℕ → Option ℕ → Taught → Judged → Taught
taught_by line reached taught (Accepted addr message None) = taught
taught_by line reached taught (Accepted addr message (Some answer)) = answer_taught line taught addr reached message answer
taught_by line reached taught (Faulty addr read fault) = taught
taught_by line reached taught BadSyntax = taught
taught_by line reached taught BadHex = taught

-- the modes of an address that may have changed aren't known any more
abbrev pub changed_by : ℕ → Option ℕ → ModeChange → Taught → Taught
changed_by line addr change taught = record taught { modes = modes_changed line addr change taught.modes }

-- something was lost in this line: no mode that was taught is known any more
abbrev pub taught_lost : ℕ → Taught → Taught
taught_lost line taught = record taught { modes = modes_lost line taught.modes }

-- an address has pages: its plain modes say nothing any more
abbrev pub paged_at : ℕ → Taught → Taught
paged_at addr taught = record taught { modes = paged addr taught.modes }

abbrev pub paged_if : Bool → Option ℕ → Taught → Taught
paged_if is None taught = taught
paged_if is (Some addr) taught = if is then paged_at addr taught else taught

-- ---- the format of a voltage

-- a format that is DIRECT
abbrev pub direct_only : Option Shape → Option Shape
direct_only None = None
direct_only (Some InLinear11) = None
direct_only (Some (InUlinear16 n)) = None
direct_only (Some (InDirect m b r)) = Some (InDirect m b r)

-- the format of a mode: DIRECT has the coefficients that were taught, otherwise those of the format that was given
abbrev pub shape_known : Option Shape → VoutMode → Option Coefficients → Option Shape
shape_known given (Linear n) coefficients = Some (InUlinear16 n)
shape_known given Direct None = direct_only given
shape_known given Direct (Some c) = result_ok (shape_in Direct c)

abbrev pub shape_by : Option Shape → Result VoutMode TableFault → Option Coefficients → Option Shape
shape_by given (Ok mode) coefficients = shape_known given mode coefficients
shape_by given (Err fault) coefficients = None

-- a relative mode of ULINEAR16: margins are parts of VOUT_COMMAND, and the other voltages have its exponent
abbrev pub is_relative : ℕ → Bool
is_relative byte = byte / 32 == 4

-- VOUT_COMMAND, VOUT_MAX, VOUT_MIN and READ_VOUT
abbrev pub is_never_relative : ℕ → Bool
is_never_relative code = code == command.vout_command || (code == command.vout_max || (code == command.vout_min
    || code == command.read_vout))

abbrev pub relative_shape : ℕ → ℕ → Option Shape
relative_shape code byte = if is_never_relative code then Some (InUlinear16 (exponent_of byte)) else None

abbrev pub shape_of_byte : Option Shape → ℕ → ℕ → Option Coefficients → Option Shape
shape_of_byte given code byte coefficients =
    if is_relative byte then relative_shape code byte else shape_by given (mode_of byte) coefficients

-- the format that was given holds if the trace taught no mode and ended none; no format holds if the mode may have changed
abbrev pub shape_of_mode : Option Shape → ℕ → Option (Option ℕ) → Option Coefficients → Option Shape
shape_of_mode given code None coefficients = given
shape_of_mode given code (Some None) coefficients = None
shape_of_mode given code (Some (Some byte)) coefficients = shape_of_byte given code byte coefficients

-- the coefficients of a code of an address, by its key: those of the packet's own side, or of the other if its own wasn't taught
abbrev pub coefficients_known : Taught → Bool → ℕ → Option Coefficients
coefficients_known taught is_read key =
    if is_read then option_or (lookup (nat_eq key) taught.to_read) (lookup (nat_eq key) taught.to_write)
    else option_or (lookup (nat_eq key) taught.to_write) (lookup (nat_eq key) taught.to_read)

-- the format of a voltage, if it is known
abbrev pub taught_voltage_shape : Option Shape → Taught → Asked → Option Shape
taught_voltage_shape given taught asked = shape_of_mode given asked.code (page_mode taught.modes asked.addr asked.page)
    (coefficients_known taught asked.is_read (key_of asked.addr asked.code))

-- ---- the formats that are given

-- whether a number is the one that is named; each is if none is named
abbrev pub is_met : Option ℕ → ℕ → Bool
is_met None number = true
is_met (Some wanted) number = wanted == number

-- the format of the first entry for this address and code; an absent entry ends the list
abbrev pub format_given : List (Option GivenFormat) → ℕ → ℕ → Option Shape
format_given [] addr code = None
format_given (None ∷ entries) addr code = None
format_given (Some entry ∷ entries) addr code = if is_met entry.addr addr && is_met entry.code code
    then Some (shape_of entry.format) else format_given entries addr code

-- ---- the format of a reading

-- LINEAR11 if a mode of ULINEAR16 was seen
abbrev pub linear_if : Option Bool → Option Shape
linear_if None = None
linear_if (Some seen) = Some InLinear11

abbrev pub reading_shape : List (Option GivenFormat) → Taught → ℕ → ℕ → Option Shape
reading_shape readings taught addr code =
    option_or (format_given readings addr code) (linear_if (lookup (nat_eq addr) taught.linear))

-- the codes whose words are readings, each in a format of its own
abbrev pub is_reading_code : ℕ → Bool
is_reading_code code = code == command.read_vin || (code == command.read_iout || code == command.read_temperature_1)

-- the format of a reading is only assumed: neither the capture nor an option gave it
abbrev pub is_assumed : GivenFormats → Taught → ℕ → ℕ → Bool
is_assumed given taught addr code = is_reading_code code
    && (not (is_some (format_given given.readings addr code)) && is_some (lookup (nat_eq addr) taught.linear))

-- ---- the format of a word

abbrev pub packet_shape : GivenFormats → Taught → Asked → Option Shape
packet_shape given taught asked =
    if is_output_voltage_code asked.code then taught_voltage_shape (format_given given.vout asked.addr asked.code) taught asked
    else (if is_reading_code asked.code then reading_shape given.readings taught asked.addr asked.code else None)
