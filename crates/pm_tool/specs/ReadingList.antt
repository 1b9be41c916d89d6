-- The formats that the texts of `--vout` and `--readings` list. This project's own choice.
use Rattle.std.specs.Prelude.{ℕ, zero, suc, Bool, true, ◌&&◌, ◌||◌, nat_lt, not, if◌then◌else◌, List, [], ◌∷◌}
use Rattle.std.specs.Prelude.{Option, Some, None, option_and_then, option_map}
use Rattle.std.specs.Result.{result_ok}
use Rattle.pm_lines.specs.Digits.{hex_of}
use Rattle.pm_num.specs.AnyFormat.{Shape, InLinear11, InUlinear16, shape_of}
use Rattle.pm_table.specs.Format.{shape_in}
use Rattle.pm_table.specs.declared.vout_mode.VoutMode.TheVariants as mode
use Rattle.pm_trace.specs.Taught.{is_reading_code}
use Rattle.pm_trace.specs.declared.formats.GivenFormat.{GivenFormat}
use Rattle.pm_tool.specs.Question.{Text, format_by, items, parts}
use Rattle.pm_tool.specs.declared.commandline.readings.Listed.{Listed}
use Rattle.pm_tool.specs.declared.commandline.readings.Listed.TheVariants.{Voltages, Readings}
use Rattle.pm_tool.specs.declared.numbers.question.FormatText.{FormatText}
use Rattle.pm_tool.specs.declared.numbers.question.FormatText.TheVariants.{Linear11, Ulinear16, Direct}

-- an entry of the list: the address and the code that have the format, each or all of them
pub record Entry : Type 0 where
  pub addr : Option ℕ
  pub code : Option ℕ
  pub shape : Shape

-- an entry as it is kept
abbrev pub entry_seen : GivenFormat → Entry
entry_seen made = record { addr = made.addr; code = made.code; shape = shape_of made.format }

-- an entry, if there is one
abbrev pub if_any : Option GivenFormat → List Entry
if_any None = []
if_any (Some made) = entry_seen made ∷ []

-- the format that a text names, if it can be: a DIRECT one has a slope other than 0 and an exponent in its range
abbrev pub shape_named : FormatText → Option Shape
shape_named Linear11 = Some InLinear11
shape_named (Ulinear16 n) = Some (InUlinear16 n)
shape_named (Direct m b r) = result_ok (shape_in mode.Direct (record { m = m; b = b; r = r }))

-- a reading has LINEAR11 or DIRECT, and a voltage any of the three
abbrev pub listed_shape : Listed → FormatText → Option Shape
listed_shape Voltages format = shape_named format
listed_shape Readings Linear11 = shape_named Linear11
listed_shape Readings (Ulinear16 n) = None
listed_shape Readings (Direct m b r) = shape_named (Direct m b r)

-- a device's address, 08h to 77h, or none
abbrev pub is_place : Option ℕ → Bool
is_place None = true
is_place (Some addr) = not (nat_lt addr 0x08 || nat_lt 0x77 addr)

-- READ_VIN, READ_IOUT or READ_TEMPERATURE_1, or none
abbrev pub is_asked_for : Option ℕ → Bool
is_asked_for None = true
is_asked_for (Some code) = is_reading_code code

abbrev pub entry_at : Option ℕ → Option ℕ → Shape → Entry
entry_at addr code shape = record { addr = addr; code = code; shape = shape }

-- the entry of a format that is for an address and a code, if all three can be
abbrev pub entry_for : Listed → Option ℕ → Option ℕ → Option FormatText → Option Entry
entry_for listed addr code format = if is_place addr && is_asked_for code
    then option_map (entry_at addr code) (option_and_then (listed_shape listed) format) else None

-- the entry after a first part in two hexadecimal digits: of voltages the address; of readings the code, or the address and then the code
abbrev pub entry_behind : ℕ → Option ℕ → Text → List Text → Option Entry
entry_behind first None second more = entry_for Readings None (Some first) (format_by (second ∷ more))
entry_behind first (Some code) second more = entry_for Readings (Some first) (Some code) (format_by more)

abbrev pub entry_at_number : Listed → ℕ → Text → List Text → Option Entry
entry_at_number Voltages number second more = entry_for Voltages (Some number) None (format_by (second ∷ more))
entry_at_number Readings number second more = entry_behind number (hex_of 2 second) second more

abbrev pub entry_from : Listed → Option ℕ → Text → Text → List Text → Option Entry
entry_from listed None first second more = entry_for listed None None (format_by (first ∷ second ∷ more))
entry_from listed (Some number) first second more = entry_at_number listed number second more

abbrev pub entry_by : Listed → List Text → Option Entry
entry_by listed [] = None
entry_by listed (name ∷ []) = entry_for listed None None (format_by (name ∷ []))
entry_by listed (first ∷ second ∷ more) = entry_from listed (hex_of 2 first) first second more

-- an entry: `FORMAT`, and `AA:FORMAT` of voltages, `CC:FORMAT` or `AA:CC:FORMAT` of readings
abbrev pub listed_entry : Listed → Text → Option Entry
listed_entry listed text = entry_by listed (parts text)

-- one more entry before the others
abbrev pub before_entries : Option Entry → Option (List Entry) → Option (List Entry)
before_entries None entries = None
before_entries (Some entry) entries = option_map (λ es. entry ∷ es) entries

-- the entries of so many texts at most
abbrev pub entries_in : Listed → ℕ → List Text → Option (List Entry)
entries_in listed room [] = Some []
entries_in listed zero (text ∷ texts) = None
entries_in listed (suc room) (text ∷ texts) = before_entries (listed_entry listed text) (entries_in listed room texts)

-- the entries of a text, one to eight with commas between them
abbrev pub listed_entries : Listed → Text → Option (List Entry)
listed_entries listed text = entries_in listed 8 (items text)

-- the entries of what is left of a text, which may be nothing
abbrev pub entries_left : Listed → ℕ → Option Text → Option (List Entry)
entries_left listed room None = Some []
entries_left listed room (Some text) = entries_in listed room (items text)
