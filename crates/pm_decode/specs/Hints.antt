-- What is said besides of a capture that was shown whole: a voltage that is ordered beyond 1000 V by the format that was given,
-- lines of which none is what the options say that lines are, a line that begins with its time, packets that all lack their PEC, and PAGE
-- that isn't followed. This project's own choice.
use Rattle.std.specs.Prelude.{ℕ, ◌/◌, ◌%◌, Bool, false, ◌==◌, ◌&&◌, ◌||◌, nat_lt, not, is_some, unsigned_abs, if◌then◌else◌, List, [], ◌∷◌, drop, length, replicate, take, Option, Some, None}
use Rattle.std.specs.List.{list_all}
use Rattle.pm_frame.specs.declared.message.Message.{Message}
use Rattle.pm_frame.specs.declared.message.Message.TheVariants.{WriteByte}
use Rattle.pm_table.specs.Codes as command
use Rattle.pm_trace.specs.Otherwise.{is_accepted, lacks_pec}
use Rattle.pm_trace.specs.declared.answers.Ones.TheVariants.{Answer}
use Rattle.pm_trace.specs.Trace.{Judged, Accepted, Faulty, BadSyntax, BadHex, parts_judged}
use Rattle.pm_trace.specs.declared.trace_line.TraceLine.{TraceLine}
use Rattle.pm_trace.specs.Taught.{Taught}
use Rattle.pm_trace.specs.Values.{millionths, packet_value}
use Rattle.pm_trace.specs.declared.formats.GivenFormat.{GivenFormat}
use Rattle.pm_trace.specs.declared.formats.GivenFormats.{GivenFormats}
use Rattle.pm_trace.specs.declared.value.Unit.TheVariants.{Volt, Ampere, Celsius}
use Rattle.pm_trace.specs.declared.value.Value.{Value}
use Rattle.pm_trace.specs.declared.value.Value.TheVariants.{Measured, Operates, Protects, Scales, Relative, Vid, Half, Flags, Capable, Controls, Revises}
use Rattle.pm_decode.specs.declared.options.TellOptions.{TellOptions}

-- ---- a voltage

-- a voltage of more than 1000 V, of either sign
abbrev pub is_huge_value : Value → Bool
is_huge_value (Measured ratio Volt) = nat_lt 1000000000 (unsigned_abs (millionths ratio))
is_huge_value (Measured ratio Ampere) = false
is_huge_value (Measured ratio Celsius) = false
is_huge_value (Operates byte) = false
is_huge_value (Protects byte) = false
is_huge_value (Scales mode) = false
is_huge_value (Relative n) = false
is_huge_value Vid = false
is_huge_value Half = false
is_huge_value (Flags status bits) = false
is_huge_value (Capable byte) = false
is_huge_value (Controls byte) = false
is_huge_value (Revises byte) = false

abbrev pub is_huge : Option Value → Bool
is_huge None = false
is_huge (Some value) = is_huge_value value

-- a write orders one by the format that was given, since what was taught gives it no value
abbrev pub is_huge_order : GivenFormats → Taught → ℕ → Option ℕ → Message → Bool
is_huge_order given taught addr reached message = is_huge (packet_value given taught addr reached message None)
    && not (is_some (packet_value (record { vout = replicate 8 None; readings = given.readings }) taught addr reached message None))

abbrev pub is_order_beyond : GivenFormats → Taught → Option ℕ → Judged → Bool
is_order_beyond given taught reached (Accepted addr message None) = is_huge_order given taught addr reached message
is_order_beyond given taught reached (Accepted addr message (Some answer)) = false
is_order_beyond given taught reached (Faulty addr is_read fault) = false
is_order_beyond given taught reached BadSyntax = false
is_order_beyond given taught reached BadHex = false

-- the first line of such an order, after the one of this number
abbrev pub first_if : Option ℕ → Bool → ℕ → Option ℕ
first_if (Some line) is number = Some line
first_if None is number = if is then Some number else None

-- a format of voltages is given
abbrev pub has_entry : List (Option GivenFormat) → Bool
has_entry [] = false
has_entry (entry ∷ entries) = is_some entry

abbrev pub has_vout_format : GivenFormats → Bool
has_vout_format given = has_entry given.vout

abbrev pub beyond_by : TellOptions → Taught → Option ℕ → ℕ → Judged → Option ℕ → Option ℕ
beyond_by options taught reached number judged before =
    if options.values && has_vout_format options.formats then first_if before (is_order_beyond options.formats taught reached judged) number
    else before

-- ---- outputs

-- a good write of PAGE
abbrev pub writes_page : Judged → Bool
writes_page (Accepted addr (WriteByte code byte) answer) = code == command.page
writes_page judged = false

abbrev pub paging_by : TellOptions → ℕ → Judged → Option ℕ → Option ℕ
paging_by options number judged before =
    if options.values && not options.pages then first_if before (writes_page judged) number else before

-- ---- times

-- a byte of two decimal digits
abbrev pub is_digits : ℕ → Bool
is_digits byte = nat_lt (byte / 16) 10 && nat_lt (byte % 16) 10

-- a packet would be good without its first eight bytes, which are the 16 digits of a time in microseconds
abbrev pub is_timed : TraceLine → Bool
is_timed parts = nat_lt 8 (length parts.write)
    && (list_all is_digits (take 8 parts.write) && is_accepted (parts_judged (drop 8 parts.write) parts.read))

-- the first line of such a packet, if lines have no times
abbrev pub timed_by : TellOptions → ℕ → TraceLine → Option ℕ → Option ℕ
timed_by options number parts before = if options.times || is_accepted (parts_judged parts.write parts.read)
    then before else first_if before (is_timed parts) number

-- ---- packets without PEC

-- Whether each packet that isn't good would be with its PEC: those before this one, and this one. It doesn't matter if packets
-- without PEC are shown.
abbrev pub lacking_by : Bool → TraceLine → Bool → Bool
lacking_by all parts lacking = if all || is_accepted (parts_judged parts.write parts.read) then lacking
    else lacking && lacks_pec Answer parts.write parts.read
