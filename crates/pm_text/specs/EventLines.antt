-- The event lines of a scenario, each with its words in their order. The forms are this project's own
-- choice.
use Rattle.std.specs.Prelude.{ℕ, Bool, true, false, List, [], ◌∷◌, Option, Some, None, codes}
use Rattle.pm_table.specs.declared.cell.Cell.{Cell}
use Rattle.pm_table.specs.declared.cell.Cell.TheVariants.{Out}
use Rattle.pm_device.specs.declared.converter.Ending.{Ending}
use Rattle.pm_device.specs.declared.converter.Ending.TheVariants.{Stop, Restart}
use Rattle.pm_host.specs.declared.command.Command.TheVariants.{ClearFaults, StoreUserAll, RestoreUserAll}
use Rattle.pm_host.specs.declared.job.Job.{Job}
use Rattle.pm_host.specs.declared.job.Job.TheVariants.{Order, OrderMicro, Check, Learn, Send}
use Rattle.pm_world.specs.Job.{event_of}
use Rattle.pm_world.specs.declared.event.Arrival.{Arrival}
use Rattle.pm_world.specs.declared.event.Arrival.TheVariants as arrives
use Rattle.pm_world.specs.declared.event.Back.{Back}
use Rattle.pm_world.specs.declared.event.Back.TheVariants as returns
use Rattle.pm_world.specs.declared.event.Event.{Event}
use Rattle.pm_world.specs.declared.event.Event.TheVariants.{Deliver, Finish, Exchange, RestartDevice, RestartHost, Reading as Measure}
use Rattle.pm_lines.specs.Digits.{hex_of, signed_of, small_of}
use Rattle.pm_text.specs.Kinds.{output_or_device, register_named_in_form, device_cell_named, output_reading_named, device_reading_named}
use Rattle.pm_text.specs.Kinds.{cell_word}
use Rattle.pm_text.specs.Kinds.{frame_bytes}
use Rattle.pm_text.specs.Readers.{◌>>=◌, Field, field, gives, lines_into, made_into, named, one_of}
use Rattle.pm_text.specs.declared.form.Form.{Form}
use Rattle.pm_text.specs.declared.scenario.reading.Measured.{Measured}
use Rattle.pm_text.specs.declared.form.Form.TheVariants.{First}
use Rattle.pm_text.specs.declared.scenario.fault.ScenarioFault.TheVariants.{Syntax, BadHex}

-- `O NAME`, or `- WRITE_PROTECT`
abbrev pub cell_field_at : Form → Option ℕ → Field Cell
cell_field_at form None = field Syntax device_cell_named
cell_field_at form (Some output) = do
  register ← field Syntax (register_named_in_form form)
  gives (Out output register)

unfoldable pub cell : Form → Field Cell
cell form = do
  output ← field Syntax output_or_device
  cell_field_at form output

-- `O NAME HEX`, or `- WRITE_PROTECT HH`
unfoldable pub order_rest : Form → Field Job
order_rest form = do
  ordered ← cell form
  word ← field BadHex (cell_word ordered)
  gives (Order ordered word)

-- `O NAME K`, K in microvolts
unfoldable pub volts_rest : Form → Field Job
volts_rest form = do
  output ← field Syntax small_of
  register ← field Syntax (register_named_in_form form)
  microvolts ← field Syntax (signed_of 64)
  gives (OrderMicro (Out output register) microvolts)

unfoldable pub check_rest : Form → Field Job
check_rest form = do
  checked ← cell form
  gives (Check checked)

unfoldable pub learn_rest : Field Job
learn_rest = do
  output ← field Syntax small_of
  gives (Learn output)

unfoldable pub clear_rest : Field Job
clear_rest = do
  output ← field Syntax small_of
  gives (Send (ClearFaults output))

-- how bytes that arrive in a frame's place are ended
abbrev pub ending_named : List ℕ → Option Ending
ending_named = named ((codes "stop", Stop) ∷ (codes "restart", Restart) ∷ [])

-- `whole`, `cut N`, or `bytes HEX stop` or `bytes HEX restart`
unfoldable pub arrival : Field Arrival
arrival = one_of (
    (codes "whole", gives arrives.Whole) ∷ (
      codes "cut",
      do
        count ← field Syntax small_of
        gives (arrives.Cut count),
    ) ∷ (
      codes "bytes",
      do
        bytes ← field BadHex frame_bytes
        ending ← field Syntax ending_named
        gives (arrives.Bytes (record { items = bytes }) ending),
    ) ∷ [])

-- `whole`, `cut N` or `bytes HEX`
unfoldable pub back : Field Back
back = one_of (
    (codes "whole", gives returns.Whole) ∷ (
      codes "cut",
      do
        count ← field Syntax small_of
        gives (returns.Cut count),
    ) ∷ (
      codes "bytes",
      do
        bytes ← field BadHex frame_bytes
        gives (returns.Bytes (record { items = bytes })),
    ) ∷ [])

unfoldable pub deliver_rest : Field Event
deliver_rest = do
  arrived ← arrival
  gives (Deliver arrived)

-- `ack` or `nack`: whether the write was acknowledged
unfoldable pub finish_rest : Field Bool
finish_rest = field Syntax (named ((codes "ack", true) ∷ (codes "nack", false) ∷ []))

unfoldable pub exchange_rest : Field Event
exchange_rest = do
  arrived ← arrival
  returned ← back
  gives (Exchange arrived returned)

unfoldable pub restart_rest : Field Event
restart_rest = field Syntax (named ((codes "device", RestartDevice) ∷ (codes "host", RestartHost) ∷ []))

-- `O NAME HHHH` for a reading of an output, `- NAME HHHH` for one of the device, for which output 0 is named and
-- isn't looked at
abbrev pub reading_field_at : Option ℕ → Field Measured
reading_field_at None = do
  code ← field Syntax device_reading_named
  word ← field BadHex (hex_of 4)
  gives (record { output = 0; code = record { 0 = code }; word = word })
reading_field_at (Some output) = do
  code ← field Syntax output_reading_named
  word ← field BadHex (hex_of 4)
  gives (record { output = output; code = record { 0 = code }; word = word })

abbrev pub measured_event : Measured → Event
measured_event m = Measure m.output m.code m.word

unfoldable pub reading_rest : Field Measured
reading_rest = do
  output ← field Syntax output_or_device
  reading_field_at output

-- the lines of jobs that the first form lacks: `store` and `restore`, with no more words
abbrev pub store_lines : Form → List (List ℕ × Field Job)
store_lines First = []
store_lines _ = (codes "store", gives (Send StoreUserAll)) ∷ (codes "restore", gives (Send RestoreUserAll)) ∷ []

-- the lines that ask for a job: the first word of each, and the words that follow it
abbrev pub job_lines : Form → List (List ℕ × Field Job)
job_lines form =
    (codes "order", order_rest form) ∷
    (codes "volts", volts_rest form) ∷
    (codes "check", check_rest form) ∷
    (codes "learn", learn_rest) ∷
    (codes "clear", clear_rest) ∷ store_lines form

unfoldable pub job_line : Form → Field Job
job_line form = one_of (job_lines form)

-- an event line: one of these, or one that asks for a job, which is the event of this job
unfoldable pub event_line : Form → Field Event
event_line form = one_of (
    (codes "deliver", deliver_rest) ∷
    (codes "finish", made_into Finish finish_rest) ∷
    (codes "exchange", exchange_rest) ∷
    (codes "restart", restart_rest) ∷
    (codes "reading", made_into measured_event reading_rest) ∷ lines_into event_of (job_lines form))
