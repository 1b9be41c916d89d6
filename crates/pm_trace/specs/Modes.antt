-- What a capture says of the VOUT_MODE of each output (PMBus 1.3 Part II), until it may have changed: of each address and page, and
-- of each address that never had a packet of PAGE or PAGE_PLUS, which is one output. That these decide is this project's own choice.
use Rattle.std.specs.Prelude.{ℕ, ◌+◌, ◌*◌, ◌/◌, Bool, true, false, not, ◌&&◌, ◌||◌, ◌==◌, nat_eq, nat_lt, if◌then◌else◌, List, [], is_some, Option, Some, None}
use Rattle.std.specs.List.{list_any}
use Rattle.std.specs.Map.{lookup}
use Rattle.indexmap.specs.IndexMap.{insert_entry}
use Rattle.std.specs.Option.{option_or}
use Rattle.pm_trace.specs.declared.touch.Touch.{Touch}
use Rattle.pm_trace.specs.declared.touch.Touch.TheVariants.{Nothing, AsksPage, WritesPage, WritesMode, Restores}
use Rattle.pm_trace.specs.declared.mode_changes.ModeChange.{ModeChange}
use Rattle.pm_trace.specs.declared.mode_changes.ModeChange.TheVariants.{OfNone, OfOutput, OfAll, OfRestart}
use Rattle.pm_trace.specs.declared.modes.ModeLine.{ModeLine}

-- what a line said of the mode of each output, and of the plain mode of each address, which is None for one that had a packet of
-- PAGE or PAGE_PLUS; for each address the last line by which all its modes may have changed; the addresses with a mode that a
-- packet may have changed; and the last line in which something was lost, of nobody knows which address, or 0
pub record Modes : Type 0 where
  pub said : List (ℕ × ModeLine)
  pub plain : List (ℕ × Option ModeLine)
  pub changed : List (ℕ × ℕ)
  pub written : List (ℕ × Bool)
  pub lost : ℕ

abbrev pub no_modes : Modes
no_modes = record { said = []; plain = []; changed = []; written = []; lost = 0 }

-- the output of a page at an address, and the code of an address
abbrev pub key_of : ℕ → ℕ → ℕ
key_of addr number = addr * 256 + number

-- ---- by what a mode may change

-- a write of VOUT_MODE changes one mode if a clear packet names the output; FFh, and a page that isn't known, are all of them
abbrev pub page_change : Bool → Option ℕ → ModeChange
page_change is_clear None = OfAll
page_change is_clear (Some page) = if is_clear && not (page == 0xFF) then OfOutput page else OfAll

-- what a packet may change that touches so; `page` is the one that plain packets reach, if that is sure
abbrev pub change_of : Bool → Option ℕ → Touch → ModeChange
change_of is_clear page (WritesMode named) = page_change is_clear (option_or named page)
change_of is_clear page Restores = OfAll
change_of is_clear page WritesPage = OfNone
change_of is_clear page AsksPage = OfNone
change_of is_clear page Nothing = OfNone

-- ---- what a line says

-- a mode that a line says, or that isn't known any more after it
abbrev pub mode_said_in : ℕ → Option ℕ → ModeLine
mode_said_in line byte = record { byte = byte; line = line }

-- the mode of an output
abbrev pub output_said : ℕ → ℕ → ℕ → Option ℕ → Modes → Modes
output_said line addr page byte modes =
    record modes { said = insert_entry nat_eq modes.said (key_of addr page) (mode_said_in line byte) }

-- the plain mode of an address, after what is known of that
abbrev pub plain_over : Option (Option ModeLine) → ModeLine → Option ModeLine
plain_over (Some None) said = None
plain_over (Some (Some before)) said = Some said
plain_over None said = Some said

abbrev pub plain_said : ℕ → ℕ → ℕ → Modes → Modes
plain_said line addr byte modes = record modes {
  plain = insert_entry nat_eq modes.plain addr (plain_over (lookup (nat_eq addr) modes.plain) (mode_said_in line (Some byte)));
}

-- the modes of an address that may have changed aren't known any more
abbrev pub all_changed : ℕ → ℕ → Modes → Modes
all_changed line addr modes = record modes { changed = insert_entry nat_eq modes.changed addr line }

-- a mode of an address may have been written
abbrev pub mode_written : ℕ → Modes → Modes
mode_written addr modes = record modes { written = insert_entry nat_eq modes.written addr true }

-- a restart changes modes of an address only if one was written before
abbrev pub modes_changed : ℕ → Option ℕ → ModeChange → Modes → Modes
modes_changed line None change modes = modes
modes_changed line (Some addr) OfNone modes = modes
modes_changed line (Some addr) (OfOutput page) modes = mode_written addr (output_said line addr page None modes)
modes_changed line (Some addr) OfAll modes = mode_written addr (all_changed line addr modes)
modes_changed line (Some addr) OfRestart modes =
    if is_some (lookup (nat_eq addr) modes.written) then all_changed line addr modes else modes

-- an address has a packet of PAGE or PAGE_PLUS: its plain modes say nothing any more
abbrev pub paged_over : Option (Option ModeLine) → ℕ → Modes → Modes
paged_over (Some None) addr modes = modes
paged_over (Some (Some said)) addr modes = record modes { plain = insert_entry nat_eq modes.plain addr None }
paged_over None addr modes = record modes { plain = insert_entry nat_eq modes.plain addr None }

abbrev pub paged : ℕ → Modes → Modes
paged addr modes = paged_over (lookup (nat_eq addr) modes.plain) addr modes

-- ---- what is known

-- something was lost in this line
abbrev pub modes_lost : ℕ → Modes → Modes
modes_lost line modes = record modes { lost = line }

-- the byte of a mode that a line said, unless all modes of its address may have changed since then, or something was lost
abbrev pub mode_unless : Option ℕ → ModeLine → Option ℕ
mode_unless None said = said.byte
mode_unless (Some line) said = if nat_lt line said.line then said.byte else None

abbrev pub mode_since : ℕ → Option ℕ → ModeLine → Option ℕ
mode_since lost changed said = if nat_lt lost said.line then mode_unless changed said else None

abbrev pub changed_at : Modes → ℕ → Option ℕ
changed_at modes addr = lookup (nat_eq addr) modes.changed

-- an entry is one of an address
abbrev pub is_entry_of : ℕ → ℕ × ModeLine → Bool
is_entry_of addr entry = entry.0 / 256 == addr

-- a plain mode of an address was said, and it has no pages
abbrev pub is_plain_said : Option (Option ModeLine) → Bool
is_plain_said (Some (Some said)) = true
is_plain_said (Some None) = false
is_plain_said None = false

-- a mode of an address was said, or something may have changed all of them
abbrev pub is_spoken_of : Modes → ℕ → Bool
is_spoken_of modes addr = is_some (changed_at modes addr) || (is_plain_said (lookup (nat_eq addr) modes.plain)
    || list_any (is_entry_of addr) modes.said)

-- what is known where no mode of a packet was said: it isn't known any more if the capture spoke of it, and otherwise nothing was said
abbrev pub unsaid : Bool → Option (Option ℕ)
unsaid is_spoken = if is_spoken then Some None else None

-- what is known of an output's mode: the byte if that is still known
abbrev pub output_mode : ℕ → Option ℕ → Option ModeLine → Option (Option ℕ)
output_mode lost changed None = unsaid (is_some changed)
output_mode lost changed (Some said) = Some (mode_since lost changed said)

-- what is known of a plain packet's mode whose output isn't known: that of the last plain read, if the address has no pages
abbrev pub plain_mode : ℕ → Option ℕ → Option (Option ModeLine) → Bool → Option (Option ℕ)
plain_mode lost changed (Some (Some said)) is_spoken = Some (mode_since lost changed said)
plain_mode lost changed (Some None) is_spoken = unsaid is_spoken
plain_mode lost changed None is_spoken = unsaid is_spoken

-- What is known of the mode of a packet that reaches this page, if anything is. A format is its output's alone: FFh, which is all
-- pages, has none.
abbrev pub page_mode : Modes → ℕ → Option ℕ → Option (Option ℕ)
page_mode modes addr None =
    plain_mode modes.lost (changed_at modes addr) (lookup (nat_eq addr) modes.plain) (is_spoken_of modes addr)
page_mode modes addr (Some page) = if page == 0xFF then unsaid (is_spoken_of modes addr)
    else output_mode modes.lost (changed_at modes addr) (lookup (nat_eq (key_of addr page)) modes.said)
