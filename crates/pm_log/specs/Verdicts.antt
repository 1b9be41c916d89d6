-- The line that says what a log comes to. This project's own choice.
use Rattle.std.specs.Prelude.{ℕ, zero, suc, ℤ, ◌==◌, ◌%◌, if◌then◌else◌, List, [], ◌∷◌, ◌++◌, codes, decimal, flat_map, Result, Ok, Err}
use Rattle.std.specs.Fmt.{signed_decimal}
use Rattle.pm_frame.specs.FaultWords.{frame_fault_words}
use Rattle.pm_host.specs.FaultWords.{host_fault_words}
use Rattle.pm_host.specs.declared.knowledge.Possible.{Possible}
use Rattle.pm_host.specs.declared.knowledge.Possible.TheVariants.{Any, Words}
use Rattle.pm_lines.specs.Faults.{fault_words}
use Rattle.pm_lines.specs.Numbers.{hex_byte, hex_word}
use Rattle.pm_limits.specs.declared.part_registers.PartRegisters.{PartRegisters}
use Rattle.pm_limits.specs.Part.{has_register}
use Rattle.pm_table.specs.Cell.{cell_name, is_voltage_cell}
use Rattle.pm_table.specs.declared.cell.Cell.{Cell}
use Rattle.pm_table.specs.declared.cell.Cell.TheVariants.{Out, Protect}
use Rattle.pm_table.specs.declared.reg.Reg.{Reg}
use Rattle.pm_text.specs.ScenarioText.{text_fault}
use Rattle.pm_log.specs.Answered.{may_lack}
use Rattle.pm_log.specs.Lacks.{has_all, part_at}
use Rattle.pm_log.specs.Logs.{Known}
use Rattle.pm_log.specs.declared.checked.Refusal.{Refusal}
use Rattle.pm_log.specs.declared.checking.LogEnd.{LogEnd}
use Rattle.pm_log.specs.declared.checking.LogEnd.TheVariants.{Accepted, Refused as EndsRefused}
use Rattle.pm_log.specs.declared.fault.LogFault.{LogFault}
use Rattle.pm_log.specs.declared.fault.LogFault.TheVariants.{Line, NoHead, Address, Setup, Frame, NoJob, Refused, Answered, Lacks, Word, Voltage}

-- `1 claim`, `3 claims`
unfoldable pub counted_noun : ℕ → List ℕ → List ℕ
counted_noun count what = decimal count ++ (codes " " ++ (what ++ (if count == 1 then [] else codes "s")))

-- Registers that a part lacks, each after a mark: the first after one of its own.
abbrev pub missing_name : PartRegisters → Reg → List ℕ → List ℕ
missing_name part register mark = if has_register part register then [] else mark ++ cell_name (Out 0 register)

abbrev pub mark_after : PartRegisters → Reg → List ℕ → List ℕ → List ℕ
mark_after part register mark next = if has_register part register then mark else next

abbrev pub missing_from : PartRegisters → List Reg → List ℕ → List ℕ → List ℕ
missing_from part [] mark next = []
missing_from part (register ∷ registers) mark next =
    missing_name part register mark ++ missing_from part registers (mark_after part register mark next) next

unfoldable pub missing_names : PartRegisters → List ℕ → List ℕ → List ℕ
missing_names part mark next = missing_from part may_lack mark next

-- `; without VOUT_MAX VOUT_MIN of 58 by --lacks`, if the part at the address lacks any
unfoldable pub lacks_source_text : ℕ → List ℕ
lacks_source_text addr = codes " of " ++ (hex_byte addr ++ codes " by --lacks")

unfoldable pub taken_text : ℕ → PartRegisters → List ℕ
taken_text addr part = codes "; without" ++ (missing_names part (codes " ") (codes " ") ++ lacks_source_text addr)

abbrev pub trusted_at : ℕ → PartRegisters → List ℕ
trusted_at addr part = if has_all part then [] else taken_text addr part

-- what is said of the parts at the addresses below one
unfoldable pub trusted_below : List PartRegisters → ℕ → List ℕ
trusted_below parts zero = []
trusted_below parts (suc addr) = trusted_below parts addr ++ trusted_at addr (part_at parts addr)

-- `accepted: 3 claims, 41 transfers`, and what parts lack by accepted claims
unfoldable pub counted_text : Known → List ℕ
counted_text known = codes "accepted: " ++ (counted_noun known.claims (codes "claim")
    ++ (codes ", " ++ counted_noun known.transfers (codes "transfer")))

unfoldable pub accepted_text : Known → List ℕ
accepted_text known = counted_text known ++ trusted_below known.without 128

-- a cell's word with its digits
abbrev pub word_text : Cell → ℕ → List ℕ
word_text cell word = if is_voltage_cell cell then hex_word word else hex_byte (word % 256)

-- the output, or `-` for the device, and a space
abbrev pub cell_place_text : Cell → List ℕ
cell_place_text (Out output register) = decimal output ++ codes " "
cell_place_text Protect = codes "- "

-- words, each after a space
abbrev pub words_text : Cell → List ℕ → List ℕ
words_text cell words = flat_map (λ word. codes " " ++ word_text cell word) words

abbrev pub possible_words_text : Cell → Possible → List ℕ
possible_words_text cell Any = codes " any"
possible_words_text cell (Words words) = words_text cell words.items

-- ` isn't known to hold 34CD`, `: possible 1000 34CD`
unfoldable pub unknown_held : Cell → ℕ → List ℕ
unknown_held cell word = codes " isn't known to hold " ++ word_text cell word

unfoldable pub possible_left : Cell → Possible → List ℕ
possible_left cell possible = codes ": possible" ++ possible_words_text cell possible

-- `0 VOUT_COMMAND isn't known to hold 34CD: possible 1000 34CD`
unfoldable pub unknown_word : Cell → ℕ → Possible → List ℕ
unknown_word cell word possible = cell_place_text cell ++ (cell_name cell ++ (unknown_held cell word ++ possible_left cell possible))

-- `3300000 to 3301000 uV`
unfoldable pub range_text : ℤ → ℤ → List ℕ
range_text least most = signed_decimal least ++ (codes " to " ++ (signed_decimal most ++ codes " uV"))

-- `output 0 isn't known to command `
unfoldable pub output_text : ℕ → List ℕ
output_text output = codes "output " ++ (decimal output ++ codes " isn't known to command ")

-- `output 0 isn't known to command 3300000 to 3301000 uV`
unfoldable pub unknown_voltage : ℕ → ℤ → ℤ → List ℕ
unknown_voltage output least most = output_text output ++ range_text least most

-- `the writer says that 58 lacks`
unfoldable pub says_lacks : ℕ → List ℕ
says_lacks addr = codes "the writer says that " ++ (hex_byte addr ++ codes " lacks")

-- `the writer says that 58 lacks VOUT_MAX: 0 VOUT_MAX answered on line 5`
unfoldable pub on_line : ℕ → List ℕ
on_line line = codes " answered on line " ++ decimal line

unfoldable pub answered_on : Cell → ℕ → List ℕ
answered_on cell line = cell_place_text cell ++ (cell_name cell ++ on_line line)

unfoldable pub belied_text : ℕ → Cell → ℕ → List ℕ
belied_text addr cell line = says_lacks addr ++ (codes " " ++ (cell_name cell ++ (codes ": " ++ answered_on cell line)))

-- `the writer says that 58 lacks VOUT_MAX VOUT_MIN: --lacks=58:VOUT_MAX,VOUT_MIN if its data sheet says so`
unfoldable pub lacks_option : ℕ → PartRegisters → List ℕ
lacks_option addr part = codes ": --lacks=" ++ (hex_byte addr ++ (missing_names part (codes ":") (codes ",")
    ++ codes " if its data sheet says so"))

unfoldable pub lacks_text : ℕ → PartRegisters → List ℕ
lacks_text addr part = says_lacks addr ++ (missing_names part (codes " ") (codes " ") ++ lacks_option addr part)

-- why a host can't be, a packet is none, and a job isn't begun
unfoldable pub no_host_text : List ℕ → List ℕ
no_host_text words = codes "there is no such host: " ++ words

unfoldable pub no_packet_text : List ℕ → List ℕ
no_packet_text words = codes "no host sends this packet: " ++ words

unfoldable pub no_job : List ℕ → List ℕ
no_job words = codes "no host begins this job: " ++ words

-- why a line isn't accepted
abbrev pub fault_text : LogFault → List ℕ
fault_text (Line fault) = fault_words (text_fault fault)
fault_text NoHead = codes "no #log line stands before it"
fault_text Address = no_host_text (codes "no part has this address")
fault_text (Setup fault) = no_host_text (host_fault_words fault)
fault_text (Frame fault) = no_packet_text (frame_fault_words fault)
fault_text NoJob = codes "no job of a host sends this packet"
fault_text (Refused fault) = no_job (host_fault_words fault)
fault_text (Answered addr cell line) = belied_text addr cell line
fault_text (Lacks addr part) = lacks_text addr part
fault_text (Word cell word possible) = unknown_word cell word possible
fault_text (Voltage output least most) = unknown_voltage output least most

-- `line 17: ` and why it isn't accepted
unfoldable pub refusal_text : Refusal → List ℕ
refusal_text refusal = codes "line " ++ (decimal refusal.line ++ (codes ": " ++ fault_text refusal.fault))

-- what a log comes to, and the same with a line feed
abbrev pub verdict_words : Result Known Refusal → List ℕ
verdict_words (Ok known) = accepted_text known
verdict_words (Err refusal) = refusal_text refusal

abbrev pub verdict_text : Result Known Refusal → List ℕ
verdict_text log = verdict_words log ++ codes "\n"

abbrev pub log_end_of : Result Known Refusal → LogEnd
log_end_of (Ok known) = Accepted
log_end_of (Err refusal) = EndsRefused
