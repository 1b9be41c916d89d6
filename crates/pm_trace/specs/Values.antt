-- What a code's payload means (PMBus 1.3 Part II): which codes are shown with a value is this project's own choice.
use Rattle.std.specs.Prelude.{ℕ, ℤ, pos, ◌+◌, ◌*◌, ◌*ℤ◌, Bool, ◌&&◌, ◌||◌, ◌==◌, ◌/◌, ◌%◌, nat_lt, if◌then◌else◌, List, [], ◌∷◌, slice_index, unwrap_or, is_some, option_map, Option, Some, None}
use Rattle.std.specs.Option.{option_or}
use Rattle.std.specs.Result.{result_ok}
use Rattle.std.specs.Int.{int_div_euclid}
use Rattle.pm_frame.specs.View.{message_code, message_page, message_payload}
use Rattle.pm_frame.specs.declared.message.Message.{Message}
use Rattle.pm_num.specs.AnyFormat.{Shape, shape_value}
use Rattle.pm_num.specs.Ratio.{Ratio}
use Rattle.pm_table.specs.Codes as command
use Rattle.pm_table.specs.VoutMode.{exponent_of, mode_of}
use Rattle.pm_trace.specs.Taught.{Taught, is_relative, is_output_voltage_code, packet_shape}
use Rattle.pm_trace.specs.declared.lessons.Asked.{Asked}
use Rattle.pm_trace.specs.declared.status.Status.TheVariants as status
use Rattle.pm_trace.specs.declared.value.Value.{Value}
use Rattle.pm_trace.specs.declared.value.Value.TheVariants.{Measured, Operates, Protects, Scales, Relative, Vid, Half, Flags, Capable, Controls, Revises}
use Rattle.pm_trace.specs.declared.formats.GivenFormats.{GivenFormats}
use Rattle.pm_trace.specs.declared.value.Unit.{Unit as MeasureUnit}
use Rattle.pm_trace.specs.declared.value.Unit.TheVariants as unit
use Rattle.pm_table.specs.Cell.{is_protection}

-- ---- numbers

-- the whole millionths of a fraction, rounded down
abbrev pub millionths : Ratio → ℤ
millionths value = int_div_euclid (value.num *ℤ pos 1000000) (pos value.den)

-- ---- the values

-- the byte and the word that a payload is
abbrev pub byte_in : List ℕ → ℕ
byte_in bytes = slice_index bytes 0

abbrev pub word_in_bytes : List ℕ → ℕ
word_in_bytes bytes = slice_index bytes 0 + 256 * slice_index bytes 1

abbrev pub protects : ℕ → Option Value
protects byte = if is_protection byte then Some (Protects byte) else None

-- a byte of OPERATION whose bits 7 and 6 aren't both set
abbrev pub operates : ℕ → Option Value
operates byte = if nat_lt byte 0xC0 then Some (Operates byte) else None

-- a byte of VOUT_MODE
abbrev pub mode_value : ℕ → Option Value
mode_value byte = if is_relative byte then Some (Relative (exponent_of byte))
    else (if byte / 32 == 1 then Some Vid
    else (if byte / 32 == 3 then Some Half else option_map Scales (result_ok (mode_of byte))))

-- a byte of PMBUS_REVISION, a digit for each part of the standard, of versions 1.0 to 1.3
abbrev pub revises : ℕ → Option Value
revises byte = if nat_lt (byte / 16) 4 && nat_lt (byte % 16) 4 then Some (Revises byte) else None

-- a number, if its format is known
abbrev pub measured : Option Shape → ℕ → MeasureUnit → Option Value
measured None word unit = None
measured (Some shape) word unit = Some (Measured (shape_value shape word) unit)

-- the value of a code's payload, with the format of its word if that is a number
abbrev pub code_value : Option Shape → ℕ → List ℕ → Option Value
code_value shape code bytes =
    if is_output_voltage_code code then measured shape (word_in_bytes bytes) unit.Volt
    else (if code == command.read_vin then measured shape (word_in_bytes bytes) unit.Volt
    else (if code == command.read_iout then measured shape (word_in_bytes bytes) unit.Ampere
    else (if code == command.read_temperature_1 then measured shape (word_in_bytes bytes) unit.Celsius
    else (if code == command.operation then operates (byte_in bytes)
    else (if code == command.write_protect then protects (byte_in bytes)
    else (if code == command.vout_mode then mode_value (byte_in bytes)
    else (if code == command.status_byte then Some (Flags status.Byte (word_in_bytes bytes))
    else (if code == command.status_word then Some (Flags status.Word (word_in_bytes bytes))
    else (if code == command.status_vout then Some (Flags status.Vout (word_in_bytes bytes))
    else (if code == command.status_cml then Some (Flags status.Cml (word_in_bytes bytes))
    else (if code == command.capability then Some (Capable (byte_in bytes))
    else (if code == command.pmbus_revision then revises (byte_in bytes)
    else None))))))))))))

-- the payload that a packet carries: what was answered, otherwise what was written
abbrev pub carried : Message → Option (List ℕ) → List ℕ
carried message answer = unwrap_or answer (message_payload message)

-- the output of a packet: the one that it names, or that a plain one reaches, if it is known
abbrev pub output_of_packet : Option ℕ → Message → Option ℕ
output_of_packet reached message = option_or (message_page message) reached

-- the word of a packet whose format is asked for
abbrev pub format_asked_by_packet : ℕ → Option ℕ → Message → Option (List ℕ) → Asked
format_asked_by_packet addr reached message answer = record {
  addr = addr;
  page = output_of_packet reached message;
  code = message_code message;
  is_read = is_some answer;
}

-- the value of a packet at an address; `reached` is the output that a plain packet reaches, if it is known
abbrev pub packet_value : GivenFormats → Taught → ℕ → Option ℕ → Message → Option (List ℕ) → Option Value
packet_value given taught addr reached message answer =
    code_value (packet_shape given taught (format_asked_by_packet addr reached message answer)) (message_code message)
    (carried message answer)

-- ---- codes that the command table doesn't have

-- a register of one byte
abbrev pub of_byte : (ℕ → Value) → List ℕ → Option Value
of_byte value (byte ∷ []) = Some (value byte)
of_byte value bytes = None

-- the value of the bytes of such a code
abbrev pub other_value : ℕ → List ℕ → Option Value
other_value code bytes =
    if code == 0x02 then of_byte Controls bytes
    else (if code == 0x7B then of_byte (Flags status.Iout) bytes
    else (if code == 0x7C then of_byte (Flags status.Input) bytes
    else (if code == 0x7D then of_byte (Flags status.Temperature) bytes
    else (if code == 0x7F then of_byte (Flags status.Other) bytes
    else (if code == 0x80 then of_byte (Flags status.MfrSpecific) bytes
    else (if code == 0x81 then of_byte (Flags status.Fans12) bytes
    else (if code == 0x82 then of_byte (Flags status.Fans34) bytes
    else None)))))))
