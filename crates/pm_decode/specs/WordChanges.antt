-- The registers whose words change only by a write or from memory, and what a packet may change of them. That these are watched, and
-- what ends what is known of them, is this project's own choice.
use Rattle.std.specs.Prelude.{ℕ, Bool, true, false, not, ◌&&◌, ◌||◌, ◌==◌, nat_le, nat_lt, if◌then◌else◌, length, slice_index, List, ◌∷◌, Option, Some, None}
use Rattle.std.specs.Option.{option_or}
use Rattle.pm_table.specs.Codes as command
use Rattle.pm_decode.specs.declared.word_change.WordChange.{WordChange}
use Rattle.pm_decode.specs.declared.word_change.WordChange.TheVariants as change
use Rattle.pm_decode.specs.declared.word_change.WordEnd.{WordEnd}
use Rattle.pm_decode.specs.declared.word_change.WordEnd.TheVariants as end

-- ---- the registers

-- OPERATION, ON_OFF_CONFIG, WRITE_PROTECT, VOUT_MODE, VOUT_COMMAND to VOUT_MIN, and the limits and responses to faults from
-- VOUT_OV_FAULT_LIMIT to POUT_OP_WARN_LIMIT
abbrev pub is_watched : ℕ → Bool
is_watched code = code == command.operation || (code == 0x02 || (code == command.write_protect
    || ((nat_le command.vout_mode code && nat_le code command.vout_min) || (nat_le 0x40 code && nat_le code 0x6B))))

-- the codes of STORE and RESTORE
abbrev pub is_of_memory : ℕ → Bool
is_of_memory code = nat_le 0x11 code && nat_le code 0x18

-- a packet to this address may be of any part: a general call, or a write to a zone
abbrev pub reaches_all : ℕ → Bool
reaches_all addr = addr == 0x00 || addr == 0x37

-- ---- what a packet may write

unfoldable pub word_change_by : Option ℕ → ℕ → Bool → WordChange
word_change_by named code has_data = if is_of_memory code then change.OfMemory
    else (if has_data && is_watched code then change.OfWord named code else change.Nothing)

-- What a write part may change, whatever fault it has. PAGE_PLUS_WRITE names the page and the code that it carries.
abbrev pub word_change : List ℕ → WordChange
word_change (addr ∷ code ∷ rest) = if code == command.page_plus_write
    then word_change_by (Some (slice_index rest 1)) (slice_index rest 2) (nat_lt 3 (length rest))
    else word_change_by None code (nat_lt 0 (length rest))
word_change write = change.Nothing

abbrev pub is_change : WordChange → Bool
is_change change.Nothing = false
is_change change.OfMemory = true
is_change (change.OfWord named code) = true

-- A clear write changes one output's word, if it names the output or that is known; FFh is all of them. WRITE_PROTECT is the device's.
abbrev pub end_of_word : Bool → ℕ → Option ℕ → WordEnd
end_of_word is_clear code None = end.OfCode code
end_of_word is_clear code (Some page) = if is_clear && (not (page == 0xFF) && not (code == command.write_protect))
    then end.OfOutput page code else end.OfCode code

-- what a packet ends: `is_to_all` is whether it is a general call or a write to a zone, `page` the one that plain packets reach
abbrev pub word_end_by : Bool → Bool → Bool → Option ℕ → WordChange → WordEnd
word_end_by is_restart is_to_all is_clear page change.Nothing = if is_restart then end.OfAll else end.OfNone
word_end_by is_restart is_to_all is_clear page change.OfMemory = if is_to_all then end.OfEach else end.OfAll
word_end_by is_restart is_to_all is_clear page (change.OfWord named code) =
    if is_to_all then end.OfEach else (if is_restart then end.OfAll else end_of_word is_clear code (option_or named page))
