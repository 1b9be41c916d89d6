-- The text of a scenario, line by line: what both ends are made from, and what happens between them.
-- The form is this project's own choice.
use Rattle.std.specs.Prelude.{⊤, ◌≡◌, ℕ, suc, nat_lt, min, if◌then◌else◌, List, [], ◌∷◌, ◌++◌, length, replicate, slice_index, slice_set}
use Rattle.std.specs.Prelude.{take, Option, Some, None, Result, Ok, Err, IsOk, IsOkAnd, codes}
use Rattle.pm_num.specs.Value.{direct_least}
use Rattle.pm_table.specs.Cell.{register_count, register_number}
use Rattle.pm_table.specs.declared.cell.Cell.TheVariants.{Out}
use Rattle.pm_table.specs.declared.reg.Reg.{Reg}
use Rattle.pm_table.specs.declared.coefficients.Coefficients.{Coefficients}
use Rattle.pm_table.specs.VoutMode.{mode_of}
use Rattle.pm_device.specs.declared.config.Config.{Config}
use Rattle.pm_device.specs.declared.output_start.OutputStart.{OutputStart}
use Rattle.pm_device.specs.Start.{is_direct, no_start, start_with_words}
use Rattle.pm_world.specs.declared.event.Event.{Event}
use Rattle.pm_lines.specs.Digits.{hex_of, signed_of, small_of}
use Rattle.pm_lines.specs.Lines.{Numbered, lines_of, unskipped_from}
use Rattle.pm_lines.specs.declared.fault.TextFault.{TextFault}
use Rattle.pm_lines.specs.declared.fault.TextFault.TheVariants as text
use Rattle.pm_lines.specs.Streams.{max_text}
use Rattle.pm_text.specs.EventLines.{event_line}
use Rattle.pm_text.specs.Kinds.{cell_word, form_named, is_word, registers_of, version_of}
use Rattle.pm_text.specs.Readers.{◌>>=◌, Field, Part, Rest, field, gives, whole_line, line_as, one_of}
use Rattle.pm_text.specs.declared.form.Form.{Form}
use Rattle.pm_text.specs.declared.scenario.fault.ScenarioFault.{ScenarioFault}
use Rattle.pm_text.specs.declared.scenario.fault.ScenarioFault.TheVariants as fault
use Rattle.pm_text.specs.declared.scenario.Scenario.{Scenario}
use Rattle.pm_text.specs.declared.scenario.header.Header.{Header}
use Rattle.pm_text.specs.declared.scenario.starts.Starts.{Starts}

-- ---- the lines before the events

-- `scenario 1` or `scenario 2`
unfoldable pub form_line : Field Form
form_line = do
  _ ← field fault.Syntax (is_word (codes "scenario"))
  field fault.Syntax form_named

-- `address HH`
unfoldable pub address_line : Field ℕ
address_line = do
  _ ← field fault.Syntax (is_word (codes "address"))
  field fault.BadHex (hex_of 2)

-- `passes N`
unfoldable pub passes_line : Field ℕ
passes_line = do
  _ ← field fault.Syntax (is_word (codes "passes"))
  field fault.Syntax small_of

-- `protect HH`
unfoldable pub protect_line : Field ℕ
protect_line = do
  _ ← field fault.Syntax (is_word (codes "protect"))
  field fault.BadHex (hex_of 2)

-- `coefficients M B R`
unfoldable pub coefficients_line : Field Coefficients
coefficients_line = do
  _ ← field fault.Syntax (is_word (codes "coefficients"))
  m ← field fault.Syntax (signed_of 16)
  b ← field fault.Syntax (signed_of 16)
  r ← field fault.Syntax (signed_of 8)
  gives (record { m = m; b = b; r = r })

-- the word of the least value that an output's voltages have, by its VOUT_MODE byte and the coefficients: it
-- is VOUT_MIN if a text doesn't name one
abbrev pub lowest_word : ℕ → Coefficients → ℕ
lowest_word mode c = if is_direct (mode_of mode) then direct_least c.m else 0x0000

-- The words of an output's registers: those of these registers are read, each at its number, and the others
-- stay.
abbrev pub start_words_field : List Reg → List ℕ → Field (List ℕ)
start_words_field [] words = gives words
start_words_field (register ∷ registers) words = do
  word ← field fault.BadHex (cell_word (Out 0 register))
  start_words_field registers (slice_set words (register_number register) word)

-- MODE, a byte, and a word for each register that the form names
unfoldable pub output_rest : Form → Coefficients → Field OutputStart
output_rest form c = do
  mode ← field fault.BadHex (hex_of 2)
  words ← start_words_field (registers_of form) (replicate register_count (lowest_word mode c))
  gives (start_with_words mode (λ register. slice_index words (register_number register)))

abbrev pub some_start : Form → Coefficients → Field (Option OutputStart)
some_start form c = do
  start ← output_rest form c
  gives (Some start)

-- `output ..`, or `begin`: None
unfoldable pub output_start_line : Form → Coefficients → Field (Option OutputStart)
output_start_line form c = one_of ((codes "output", some_start form c) ∷ (codes "begin", gives None) ∷ [])

-- ---- the outputs and the events

-- an output, or `begin`, and the outputs that follow it
abbrev pub start_before : Result (Option OutputStart) ScenarioFault → Result (List OutputStart × Rest) ScenarioFault → Rest
    → Result (List OutputStart × Rest) ScenarioFault
start_before (Err first) rest left = Err first
start_before (Ok None) rest left = Ok ([], left)
start_before (Ok (Some start)) (Err first) left = Err first
start_before (Ok (Some start)) (Ok starts) left = Ok (start ∷ starts.0, starts.1)

-- the outputs up to the line `begin`, of lines that are read so
abbrev pub outputs_in : Field (Option OutputStart) → ℕ → List Numbered → Result (List OutputStart × Rest) ScenarioFault
outputs_in output count [] = Err (fault.Syntax (suc count))
outputs_in output count (line ∷ lines) =
    start_before (line_as output line) (outputs_in output count lines)
    (record { count = count; lines = lines })

unfoldable pub output_starts : Form → Coefficients → Part (List OutputStart)
output_starts form c rest = outputs_in (output_start_line form c) rest.count rest.lines

-- an event, and those of the lines that follow it, or the first fault
abbrev pub event_before : Result Event ScenarioFault → Result (List Event) ScenarioFault → Result (List Event) ScenarioFault
event_before (Err first) events = Err first
event_before (Ok event) (Err first) = Err first
event_before (Ok event) (Ok events) = Ok (event ∷ events)

abbrev pub events_in : Form → List Numbered → Result (List Event) ScenarioFault
events_in form [] = Ok []
events_in form (line ∷ lines) =
    event_before (line_as (event_line form) line) (events_in form lines)

-- a call that judges lines: they are event lines, or the first that is none has this fault
abbrev pub Judges : Form → List Numbered → Result (Unit {0}) ScenarioFault → Type 0
Judges form lines (Ok done) = IsOk (events_in form lines)
Judges form lines (Err fault) = events_in form lines ≡ Err fault

-- ---- the whole

-- how many outputs there are, of which more than 255 count as 255
abbrev pub output_count_of : List OutputStart → ℕ
output_count_of starts = min (length starts) 255

-- the first eight outputs
abbrev pub first_eight : List OutputStart → List OutputStart
first_eight starts = take 8 (starts ++ replicate 8 no_start)

-- what is kept of the outputs while they are read
abbrev pub starts_of : List OutputStart → Starts
starts_of starts = record { count = output_count_of starts; starts = first_eight starts }

-- The configuration has as many outputs as there are lines `output`. It has room for eight: the
-- fields of further lines are read, and dropped.
unfoldable pub config_of : ℕ → ℕ → Coefficients → List OutputStart → Config
config_of address protect coefficients starts = record {
  addr = address;
  count = output_count_of starts;
  starts = first_eight starts;
  protect = protect;
  coefficients = coefficients;
}

-- what stands before the events
abbrev pub header : Part Header
header = do
  form ← whole_line form_line
  address ← whole_line address_line
  passes ← whole_line passes_line
  protect ← whole_line protect_line
  coefficients ← whole_line coefficients_line
  starts ← output_starts form coefficients
  gives (record {
    form = form;
    config = config_of address protect coefficients starts;
    passes = passes;
  })

abbrev pub with_events : Header → Result (List Event) ScenarioFault → Result Scenario ScenarioFault
with_events head (Err first) = Err first
with_events head (Ok events) = Ok (record {
  version = version_of head.form;
  config = head.config;
  passes = head.passes;
  events = events;
})

abbrev pub scenario_by : Result (Header × Rest) ScenarioFault → Result Scenario ScenarioFault
scenario_by (Err first) = Err first
scenario_by (Ok got) = with_events got.0 (events_in got.0.form got.1.lines)

-- a text that is read line by line
abbrev pub rest_of : List ℕ → Rest
rest_of bytes = record { count = length (lines_of bytes); lines = unskipped_from 1 bytes }

abbrev pub text_fault : ScenarioFault → TextFault
text_fault (fault.Syntax line) = text.Syntax line
text_fault (fault.BadHex line) = text.BadHex line

abbrev pub as_text_fault : {A : Type 0} → Result A ScenarioFault → Result A TextFault
as_text_fault (Ok x) = Ok x
as_text_fault (Err first) = Err (text_fault first)

-- The scenario of a text, or the fault of its first faulty line; X3 comes before all.
unfoldable pub scenario_of : List ℕ → Result Scenario TextFault
scenario_of bytes = if nat_lt max_text (length bytes) then Err text.TooLong
    else as_text_fault (scenario_by (header (rest_of bytes)))

-- The configuration that the lines up to `begin` say, or the fault of their first faulty one; what follows them
-- isn't read.
abbrev pub config_in : Result (Header × Rest) ScenarioFault → Result Config ScenarioFault
config_in (Err first) = Err first
config_in (Ok got) = Ok got.0.config

unfoldable pub config_of_text : List ℕ → Result Config TextFault
config_of_text bytes = if nat_lt max_text (length bytes) then Err text.TooLong
    else as_text_fault (config_in (header (rest_of bytes)))

-- there is a first line, and it is an event line
abbrev pub HasFirst : Form → List Numbered → Type 0
HasFirst form [] = ⊥
HasFirst form (line ∷ lines) = IsOk (line_as (event_line form) line)

-- the lines before the events are read, and a first event line
abbrev pub HasEvent : List ℕ → Type 0
HasEvent bytes = IsOkAnd (header (rest_of bytes)) (λ got. HasFirst got.0.form got.1.lines)

-- the faults of the text of a scenario
abbrev pub IsOfScenario : TextFault → Type 0
IsOfScenario (text.Syntax line) = ⊤
IsOfScenario (text.BadHex line) = ⊤
IsOfScenario text.TooLong = ⊤
IsOfScenario text.Read = ⊥
IsOfScenario text.Write = ⊥
IsOfScenario text.Memory = ⊤
IsOfScenario (text.Setup fault) = ⊥
