-- What a line of a log says: a packet as a trace has it, a head, a claim, or nothing. The forms are this project's own choice.
use Rattle.std.specs.Prelude.{ℕ, Bool, true, false, not, ◌||◌, nat_eq, if◌then◌else◌, List, [], ◌∷◌, drop, codes, Option, Some, None, Result, Ok, Err}
use Rattle.std.specs.List.{starts_with, list_all}
use Rattle.pm_limits.specs.declared.part_registers.PartRegisters.{PartRegisters}
use Rattle.pm_limits.specs.Part.{all_registers}
use Rattle.pm_log.specs.declared.claim.Claim.TheVariants.{Holds, Commands}
use Rattle.pm_lines.specs.Digits.{hex_of, signed_of, small_of}
use Rattle.pm_lines.specs.Lines.{Numbered, is_next, is_space}
use Rattle.pm_trace.specs.Trace.{line_read}
use Rattle.pm_trace.specs.declared.line_fault.LineFault.{LineFault}
use Rattle.pm_trace.specs.declared.line_fault.LineFault.TheVariants as unread
use Rattle.pm_trace.specs.declared.trace_line.TraceLine.{TraceLine}
use Rattle.pm_text.specs.EventLines.{cell}
use Rattle.pm_text.specs.Kinds.{cell_word, is_word, newest_form}
use Rattle.pm_text.specs.Readers.{◌>>=◌, Field, field, gives, line_as, one_of}
use Rattle.pm_text.specs.declared.scenario.fault.ScenarioFault.{ScenarioFault}
use Rattle.pm_text.specs.declared.scenario.fault.ScenarioFault.TheVariants.{Syntax, BadHex}
use Rattle.pm_log.specs.declared.log_line.LogLine.{LogLine}
use Rattle.pm_log.specs.declared.log_line.LogLine.TheVariants.{Note, Head, Claimed, Sent, Failed}

-- ---- a head and a claim, by the words after the first one

-- `58 2 2`
unfoldable pub head_rest : Field LogLine
head_rest = do
  addr ← field BadHex (hex_of 2)
  outputs ← field Syntax small_of
  passes ← field Syntax small_of
  gives (Head addr outputs passes)

-- `0 VOUT_COMMAND 34CD`, or `- WRITE_PROTECT 00`
unfoldable pub holds_rest : Field LogLine
holds_rest = do
  held ← cell newest_form
  word ← field BadHex (cell_word held)
  gives (Claimed (Holds held word))

-- the next word is taken if it is this one
abbrev pub optional : List ℕ → Field Bool
optional name left = if is_next name left.words then Ok (true, record left { words = drop 1 left.words }) else Ok (false, left)

-- nothing, or `without` and the registers that a part lacks, in this order
abbrev pub lacking_of : Bool → Field PartRegisters
lacking_of false = gives all_registers
lacking_of true = do
  vout_max ← optional (codes "VOUT_MAX")
  vout_margin_high ← optional (codes "VOUT_MARGIN_HIGH")
  vout_margin_low ← optional (codes "VOUT_MARGIN_LOW")
  vout_min ← optional (codes "VOUT_MIN")
  gives (record {
    vout_max = not vout_max;
    vout_margin_high = not vout_margin_high;
    vout_margin_low = not vout_margin_low;
    vout_min = not vout_min;
  })

unfoldable pub lacking : Field PartRegisters
lacking = do
  is_given ← optional (codes "without")
  lacking_of is_given

-- `0 3300000 to 3301000 uV`, and what the part lacks
unfoldable pub commands_rest : Field LogLine
commands_rest = do
  output ← field Syntax small_of
  least ← field Syntax (signed_of 64)
  _ ← field Syntax (is_word (codes "to"))
  most ← field Syntax (signed_of 64)
  _ ← field Syntax (is_word (codes "uV"))
  part ← lacking
  gives (Claimed (Commands output part least most))

-- a line by its words
unfoldable pub line_by_mark : Field LogLine
line_by_mark = one_of ((codes "#log", head_rest) ∷ (codes "#holds", holds_rest) ∷ (codes "#commands", commands_rest) ∷ [])

-- ---- a packet

-- the bytes of a packet, or what is wrong with the line of this number
abbrev pub numbered : ℕ → Result TraceLine LineFault → Result TraceLine ScenarioFault
numbered number (Ok parts) = Ok parts
numbered number (Err unread.Syntax) = Err (Syntax number)
numbered number (Err unread.BadHex) = Err (BadHex number)

abbrev pub packet : Numbered → Result TraceLine ScenarioFault
packet line = numbered line.0 (line_read line.1)

-- a packet that was sent; a write that failed, of which nothing comes back
abbrev pub sent_in : Result TraceLine ScenarioFault → Result LogLine ScenarioFault
sent_in (Ok parts) = Ok (Sent parts)
sent_in (Err fault) = Err fault

abbrev pub failed_by : ℕ → List ℕ → Option (List ℕ) → Result LogLine ScenarioFault
failed_by number write None = Ok (Failed write)
failed_by number write (Some read) = Err (Syntax number)

abbrev pub failed_in : ℕ → Result TraceLine ScenarioFault → Result LogLine ScenarioFault
failed_in number (Ok parts) = failed_by number parts.write parts.read
failed_in number (Err fault) = Err fault

-- ---- a line

-- a note: nothing but spaces, or `##` first
abbrev pub is_note : List ℕ → Bool
is_note text = list_all is_space text || starts_with nat_eq text (codes "##")

-- what a line says, by its number and its bytes
abbrev pub said_by_line : Numbered → Result LogLine ScenarioFault
said_by_line line = if is_note line.1 then Ok Note
    else (if starts_with nat_eq line.1 (codes "#failed ") then failed_in line.0 (packet (line.0, drop 8 line.1))
    else (if starts_with nat_eq line.1 (codes "#") then line_as line_by_mark line
    else sent_in (packet line)))
