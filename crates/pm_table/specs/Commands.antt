-- The command table of PMBus 1.3 Part II, as far as this project's converter has it. Codes and
-- lengths are the standard's; read, write, scope and protection are this project's own choice. Which writes
-- WRITE_PROTECT lets through is the last column. Every other question on a code asks `line_of`.
use Rattle.std.specs.Prelude.{ℕ, Bool, true, false, List, [], ◌∷◌, Option, Some, None, if◌then◌else◌, ◌==◌, is_some, codes}
use Rattle.std.specs.Option.{option_map, option_map_or}
use Rattle.pm_table.specs.declared.commands.Attributes.{Attributes}
use Rattle.pm_table.specs.declared.commands.Info.{Info}
use Rattle.pm_table.specs.declared.protection.Protection.{Protection}
use Rattle.pm_table.specs.declared.protection.Protection.TheVariants.{NotWritten, At00, At20, At40, At80, Always}
use Rattle.pm_table.specs.declared.scope.Scope.{Scope}
use Rattle.pm_table.specs.declared.scope.Scope.TheVariants.{Device, Output}
use Rattle.pm_table.specs.Codes as command

-- a code with this protection is written at some value of WRITE_PROTECT
abbrev pub is_ever_written : Protection → Bool
is_ever_written NotWritten = false
is_ever_written _ = true

-- what the table says of a code
pub record Line : Type 0 where
  -- the name as the standard prints it
  pub name : List ℕ
  -- the bytes of the payload, 0 for a block
  pub length : ℕ
  -- it acts on one output, or on the whole device
  pub scope : Scope
  -- it is answered when read
  pub reads : Bool
  -- up to which value of WRITE_PROTECT it is taken when written
  pub protection : Protection

-- a line of these parts, in their order
abbrev pub line : List ℕ → ℕ → Scope → Bool → Protection → Line
line name length scope reads protection = record {
  name = name;
  length = length;
  scope = scope;
  reads = reads;
  protection = protection;
}

-- read and written
abbrev pub setting : List ℕ → ℕ → Scope → Protection → Line
setting name length scope protection = line name length scope true protection

-- only read
abbrev pub reading : List ℕ → ℕ → Scope → Line
reading name length scope = line name length scope true NotWritten

-- only written
abbrev pub action : List ℕ → ℕ → Scope → Protection → Line
action name length scope protection = line name length scope false protection

-- a code with its line
pub record Row : Type 0 where
  pub code : ℕ
  pub line : Line

abbrev pub row : ℕ → Line → Row
row code line = record { code = code; line = line }

-- the table, a row for each code
abbrev pub rows : List Row
rows =
    row command.page (setting (codes "PAGE") 1 Device At40) ∷
    row command.operation (setting (codes "OPERATION") 1 Output At40) ∷
    row command.clear_faults (action (codes "CLEAR_FAULTS") 0 Output Always) ∷
    row command.page_plus_write (action (codes "PAGE_PLUS_WRITE") 0 Device At00) ∷
    row command.page_plus_read (reading (codes "PAGE_PLUS_READ") 0 Device) ∷
    row command.write_protect (setting (codes "WRITE_PROTECT") 1 Device At80) ∷
    row command.store_user_all (action (codes "STORE_USER_ALL") 0 Device At00) ∷
    row command.restore_user_all (action (codes "RESTORE_USER_ALL") 0 Device At00) ∷
    row command.capability (reading (codes "CAPABILITY") 1 Device) ∷
    row command.vout_mode (reading (codes "VOUT_MODE") 1 Output) ∷
    row command.vout_command (setting (codes "VOUT_COMMAND") 2 Output At20) ∷
    row command.vout_max (setting (codes "VOUT_MAX") 2 Output At00) ∷
    row command.vout_margin_high (setting (codes "VOUT_MARGIN_HIGH") 2 Output At00) ∷
    row command.vout_margin_low (setting (codes "VOUT_MARGIN_LOW") 2 Output At00) ∷
    row command.vout_min (setting (codes "VOUT_MIN") 2 Output At00) ∷
    row command.coefficients (reading (codes "COEFFICIENTS") 0 Device) ∷
    row command.status_byte (reading (codes "STATUS_BYTE") 1 Output) ∷
    row command.status_word (reading (codes "STATUS_WORD") 2 Output) ∷
    row command.status_vout (setting (codes "STATUS_VOUT") 1 Output At00) ∷
    row command.status_cml (setting (codes "STATUS_CML") 1 Device At00) ∷
    row command.read_vin (reading (codes "READ_VIN") 2 Device) ∷
    row command.read_vout (reading (codes "READ_VOUT") 2 Output) ∷
    row command.read_iout (reading (codes "READ_IOUT") 2 Output) ∷
    row command.read_temperature_1 (reading (codes "READ_TEMPERATURE_1") 2 Device) ∷
    row command.pmbus_revision (reading (codes "PMBUS_REVISION") 1 Device) ∷
    []

-- the line of the first row with this code
abbrev pub line_among : List Row → ℕ → Option Line
line_among [] code = None
line_among (row ∷ rows) code = if code == row.code then Some row.line else line_among rows code

-- what the table says of a code; nothing of a code that has no row
unfoldable pub line_of : ℕ → Option Line
line_of code = line_among rows code

-- what it says of a code beside its name
abbrev pub attributes : ℕ → Scope → Bool → Protection → Attributes
attributes length scope reads protection =
    record { length = length; scope = scope; reads = reads; protection = protection }

abbrev pub attributes_of : ℕ → Option Attributes
attributes_of code =
    option_map (λ l. attributes l.length l.scope l.reads l.protection) (line_of code)

-- it acts on one output
abbrev pub is_paged : Scope → Bool
is_paged Device = false
is_paged Output = true

-- what a caller is told of a code: it acts on one output, is read, and is written at some value of WRITE_PROTECT
pub record Known : Type 0 where
  pub name : List ℕ
  pub length : ℕ
  pub paged : Bool
  pub reads : Bool
  pub writes : Bool

-- what is told of a code that stands in the table
abbrev pub known_of_code : ℕ → Option Known
known_of_code code = option_map (λ l. record {
  name = l.name;
  length = l.length;
  paged = is_paged l.scope;
  reads = l.reads;
  writes = is_ever_written l.protection;
}) (line_of code)

-- what is known of a code, read from the code's own type `Info`
abbrev pub info_seen : Info → Known
info_seen i = record {
  name = i.name.now;
  length = i.length;
  paged = i.paged;
  reads = i.reads;
  writes = i.writes;
}

-- the name of a code as the standard prints it; no text for a code that isn't in the table
abbrev pub name_of : ℕ → List ℕ
name_of code = option_map_or (λ l. l.name) (line_of code) []

-- the code stands in the table
abbrev pub is_known : ℕ → Bool
is_known code = is_some (line_of code)

-- the code is answered when read
abbrev pub is_read : ℕ → Bool
is_read code = option_map_or (λ l. l.reads) (line_of code) false

-- the code is taken when written
abbrev pub is_written : ℕ → Bool
is_written code = option_map_or (λ l. is_ever_written l.protection) (line_of code) false

-- the bytes of its payload, 0 for a block and for a code that isn't in the table
abbrev pub payload_length : ℕ → ℕ
payload_length code = option_map_or (λ l. l.length) (line_of code) 0
