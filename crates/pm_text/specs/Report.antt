-- What is written of a world after a scenario: what its converter holds, commands and shows, and what
-- its host knows. The form is this project's own choice; names are printed as in PMBus 1.3 Part II.
use Rattle.std.specs.Prelude.{ℕ, ℤ, pos, ◌*ℤ◌, ◌%◌, ◌^◌, Bool, if◌then◌else◌, List, ◌++◌, flat_map, is_some, decimal, codes, Option, Some}
use Rattle.std.specs.Prelude.{None}
use Rattle.std.specs.Fmt.{signed_decimal}
use Rattle.std.specs.Int.{int_div_euclid}
use Rattle.std.specs.List.{range_with_len}
use Rattle.pm_num.specs.Ratio.{Ratio}
use Rattle.pm_table.specs.declared.cell.Cell.{Cell}
use Rattle.pm_table.specs.declared.cell.Cell.TheVariants.{Out, Protect}
use Rattle.pm_table.specs.declared.reg.Reg.{Reg}
use Rattle.pm_table.specs.Cell.{cell_name, is_voltage_cell}
use Rattle.pm_model.specs.Commanded.{commanded}
use Rattle.pm_model.specs.Settings.{word_at}
use Rattle.pm_device.specs.Held.{value_for}
use Rattle.pm_device.specs.Status.{is_output_on, status_byte_of, status_cml_of, status_vout_of, status_word_of}
use Rattle.pm_host.specs.Summary.{possible_at, standing_at}
use Rattle.pm_host.specs.declared.knowledge.Possible.{Possible}
use Rattle.pm_host.specs.declared.knowledge.Possible.TheVariants.{Any, Words}
use Rattle.pm_host.specs.declared.knowledge.Standing.{Standing}
use Rattle.pm_host.specs.declared.knowledge.Standing.TheVariants.{Confirmed, Unknown}
use Rattle.pm_host.specs.declared.job.JobEnd.{JobEnd}
use Rattle.pm_host.specs.declared.job.JobEnd.TheVariants as ended
use Rattle.pm_world.specs.FaultWords.{cause_text}
use Rattle.pm_world.specs.State.{State}
use Rattle.pm_world.specs.declared.cause.Stop.{Stop}
use Rattle.pm_lines.specs.Numbers.{hex_byte, hex_word}
use Rattle.pm_text.specs.Kinds.{registers_of}
use Rattle.pm_text.specs.declared.form.Form.{Form}
use Rattle.pm_text.specs.declared.form.Form.TheVariants.{First}

-- ---- words

-- a cell's word with its digits: a voltage has four, any other is a byte, the low one of its word
abbrev pub cell_word_text : Cell → ℕ → List ℕ
cell_word_text cell word = if is_voltage_cell cell then hex_word word else hex_byte (word % 256)

-- what the host says of a cell
abbrev pub standing_text : Cell → Standing → List ℕ
standing_text cell (Confirmed word) = codes "confirmed " ++ cell_word_text cell word
standing_text cell Unknown = codes "unknown"

-- words of a cell, a space before each
abbrev pub spaced_words : Cell → List ℕ → List ℕ
spaced_words cell words = flat_map (λ word. codes " " ++ cell_word_text cell word) words

-- the words that a cell may hold
abbrev pub possible_text : Cell → Possible → List ℕ
possible_text cell Any = codes " any"
possible_text cell (Words words) = spaced_words cell words.items

-- what texts of a form tell of a cell: each but the first says of a cell that isn't confirmed what it may hold
abbrev pub cell_said_text : Form → Cell → Standing → Possible → List ℕ
cell_said_text First cell standing possible = standing_text cell standing
cell_said_text _ cell (Confirmed word) possible = standing_text cell (Confirmed word)
cell_said_text _ cell Unknown possible =
    standing_text cell Unknown ++ (codes " possible" ++ possible_text cell possible)

-- a setting: its name, the converter's word, and what the host says
unfoldable pub setting_line : Form → State → List ℕ → Cell → List ℕ
setting_line form s name cell = name ++ (codes " " ++ (cell_word_text cell (word_at s.device.words cell)
    ++ (codes " host " ++ (cell_said_text form cell (standing_at s.host cell) (possible_at s.host cell)
    ++ codes "\n"))))

-- ---- an output

-- the whole microvolts of a value: the greatest that aren't above it
unfoldable pub floor_micros : Ratio → ℤ
floor_micros value = int_div_euclid (value.num *ℤ pos (10 ^ 6)) (pos value.den)

unfoldable pub on_text : Bool → List ℕ
on_text is_on = if is_on then codes " on" else codes " off"

-- a voltage: the fraction, and the whole microvolts
unfoldable pub voltage_text : Ratio → List ℕ
voltage_text value = signed_decimal value.num
    ++ (codes "/" ++ (decimal value.den ++ (codes " " ++ (signed_decimal (floor_micros value) ++ codes " uV"))))

-- an output's number, and whether it is on
unfoldable pub output_head : ℕ → Bool → List ℕ
output_head output is_on = codes "output " ++ (decimal output ++ on_text is_on)

-- an output's number, whether it is on, and the voltage that it commands
unfoldable pub commanded_line : ℕ → Bool → Ratio → List ℕ
commanded_line output is_on voltage =
    output_head output is_on ++ (codes " commanded " ++ (voltage_text voltage ++ codes "\n"))

abbrev pub output_line : State → ℕ → List ℕ
output_line s output = commanded_line output (is_output_on s.device output)
    (commanded (value_for s.device.config output) s.device.words output)

-- STATUS_BYTE, STATUS_WORD and STATUS_VOUT
unfoldable pub status_line : State → ℕ → List ℕ
status_line s output = codes "status " ++ (hex_byte (status_byte_of s.device output)
    ++ (codes " " ++ (hex_word (status_word_of s.device output)
    ++ (codes " " ++ (hex_byte (status_vout_of s.device output) ++ codes "\n")))))

abbrev pub register_line : Form → State → ℕ → Reg → List ℕ
register_line form s output register =
    setting_line form s (cell_name (Out output register)) (Out output register)

-- an output's settings: the registers that texts of this form name
abbrev pub register_lines : Form → State → ℕ → List ℕ
register_lines form s output = flat_map (register_line form s output) (registers_of form)

-- an output's lines: what it commands, its settings, its status
unfoldable pub output_lines : Form → State → ℕ → List ℕ
output_lines form s output =
    output_line s output ++ (register_lines form s output ++ status_line s output)

abbrev pub all_outputs : Form → State → List ℕ
all_outputs form s = flat_map (output_lines form s) (range_with_len 0 s.device.config.count)

-- ---- the first line, and the last ones

-- how many events were taken, and why the next one wasn't
abbrev pub ran_line : ℕ → Option Stop → List ℕ
ran_line taken None = codes "ran " ++ (decimal taken ++ codes "\n")
ran_line taken (Some stop) =
    codes "stopped " ++ (decimal stop.at ++ (codes " " ++ (cause_text stop.cause ++ codes "\n")))

unfoldable pub cml_line : State → List ℕ
cml_line s = codes "cml " ++ (hex_byte (status_cml_of s.device) ++ codes "\n")

unfoldable pub seen_line : Bool → List ℕ
seen_line seen = if seen then codes "restart seen yes\n" else codes "restart seen no\n"

abbrev pub end_text : JobEnd → List ℕ
end_text ended.Done = codes "done"
end_text (ended.Differs word) = codes "differs " ++ hex_word word
end_text ended.Unknown = codes "unknown"
end_text ended.Learned = codes "learned"

-- the open job, or how the last one ended
abbrev pub job_text : Bool → Option JobEnd → List ℕ
job_text is_open None = if is_open then codes "pending" else codes "none"
job_text is_open (Some end) = if is_open then codes "pending" else end_text end

unfoldable pub job_report_line : State → List ℕ
job_report_line s = codes "job " ++ (job_text (is_some s.host.stage) s.end ++ codes "\n")

-- ---- the whole

-- the lines that follow the first one
unfoldable pub world_lines : Form → State → List ℕ
world_lines form s = setting_line form s (codes "protect") Protect
    ++ (all_outputs form s ++ (cml_line s ++ (seen_line s.host.known.seen ++ job_report_line s)))

unfoldable pub report_text : Form → State → ℕ → Option Stop → List ℕ
report_text form s taken stop = ran_line taken stop ++ world_lines form s
