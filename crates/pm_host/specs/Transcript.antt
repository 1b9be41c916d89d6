-- The transcript of a host: what it accepted and was told, newest first. What a host sends, how a job
-- ends and which formats were learned is found in it by looking back. The frames are those of PMBus
-- 1.3 Part II; jobs, passes and ends are this project's own choice.
use Rattle.std.specs.Prelude.{ℕ, suc, ◌*◌, ◌%◌, Bool, false, not, if◌then◌else◌, ◌==◌, List, [], ◌∷◌, length, Option, Some, None, Result}
use Rattle.std.specs.Prelude.{Ok, Err, is_some, is_none, option_map, option_and_then}
use Rattle.std.specs.Option.{option_or, option_map_or}
use Rattle.std.specs.Result.{result_ok}
use Rattle.pm_num.specs.AnyFormat.{Shape, InUlinear16}
use Rattle.pm_table.specs.declared.cell.Cell.{Cell}
use Rattle.pm_table.specs.declared.coefficients.Coefficients.{Coefficients}
use Rattle.pm_table.specs.declared.fault.TableFault.{TableFault}
use Rattle.pm_table.specs.declared.vout_mode.VoutMode.{VoutMode}
use Rattle.pm_table.specs.declared.vout_mode.VoutMode.TheVariants.{Linear, Direct}
use Rattle.pm_table.specs.VoutMode.{mode_of}
use Rattle.pm_table.specs.Format.{shape_in}
use Rattle.pm_frame.specs.declared.message.Message.{Message}
use Rattle.pm_host.specs.declared.command.Command.{Command}
use Rattle.pm_host.specs.declared.job.JobEnd.{JobEnd}
use Rattle.pm_host.specs.declared.job.JobEnd.TheVariants.{Done, Differs, Unknown, Learned}
use Rattle.pm_host.specs.Messages.{cell_write, cell_read, mode_read, coefficients_read, command_message}
use Rattle.pm_host.specs.Answers.{good_word, good_mode, good_coefficients}

-- what a host was made with: the address of its device, how many outputs that has, and how many
-- passes a job has at most
pub record Setup : Type 0 where
  pub addr : ℕ
  pub outputs : ℕ
  pub passes : ℕ

pub data Job : Type 0 where
  -- to write a word to a cell, and read it back
  Order : (cell : Cell) (word : ℕ) → Job
  -- to read a cell
  Check : (cell : Cell) → Job
  -- to read the format of an output's voltages
  Learn : (output : ℕ) → Job
  -- to send a command until it is acknowledged
  Send : (command : Command) → Job

pub data Entry : Type 0 where
  -- a job was accepted
  Accepted : (job : Job) → Entry
  -- a write was sent, and acknowledged or not
  Finished : (acked : Bool) → Entry
  -- a request was sent, and these bytes came back
  Got : (bytes : List ℕ) → Entry
  -- the host restarted
  Restarted : Entry

-- the last job that was accepted since the last restart
abbrev pub last_job : List Entry → Option Job
last_job [] = None
last_job (Accepted job ∷ before) = Some job
last_job (Finished acked ∷ before) = last_job before
last_job (Got bytes ∷ before) = last_job before
last_job (Restarted ∷ before) = None

-- what was told since then: one entry for each frame that was sent
abbrev pub told_since : List Entry → List Entry
told_since [] = []
told_since (Accepted job ∷ before) = []
told_since (Finished acked ∷ before) = Finished acked ∷ told_since before
told_since (Got bytes ∷ before) = Got bytes ∷ told_since before
told_since (Restarted ∷ before) = []

-- the word of the newest entry, where it is a good answer for the cell
abbrev pub newest_word : Setup → Cell → List Entry → Option ℕ
newest_word setup cell [] = None
newest_word setup cell (Got bytes ∷ before) = good_word setup.addr cell bytes
newest_word setup cell (_ ∷ before) = None

-- the newest entry is an acknowledged write
abbrev pub is_acked : List Entry → Bool
is_acked [] = false
is_acked (Finished acked ∷ before) = acked
is_acked (_ ∷ before) = false

-- The frames of an order take turns: a write, which an even number of entries stands before, and a
-- read of the cell.
abbrev pub is_write_turn : List Entry → Bool
is_write_turn told = length told % 2 == 0

-- how an order ends whose last pass is over, by what its read gave
abbrev pub last_pass_end : Option ℕ → JobEnd
last_pass_end None = Unknown
last_pass_end (Some word) = Differs word

-- An order: after a whole pass, of a write and a read, it is done where the read gave the ordered
-- word, and over where that was the last pass.
abbrev pub order_end : Setup → Cell → ℕ → List Entry → Option JobEnd
order_end setup cell word [] = None
order_end setup cell word (entry ∷ before) =
    let read = newest_word setup cell (entry ∷ before) in
    if not (is_write_turn (entry ∷ before)) then None
    else (if option_map_or (λ found. found == word) read false then Some Done
    else (if length (entry ∷ before) == 2 * setup.passes then Some (last_pass_end read)
    else None))

-- A check: the first good answer ends it.
abbrev pub check_end : Setup → Cell → List Entry → Option JobEnd
check_end setup cell told =
    if is_some (newest_word setup cell told) then Some Done
    else (if length told == setup.passes then Some Unknown else None)

-- A command that is sent: the first acknowledgement ends it.
abbrev pub send_end : Setup → List Entry → Option JobEnd
send_end setup told =
    if is_acked told then Some Done
    else (if length told == setup.passes then Some Unknown else None)

-- A learn reads VOUT_MODE up to the first good answer, which is this byte.
abbrev pub vout_mode_told : Setup → ℕ → List Entry → Option ℕ
vout_mode_told setup output [] = None
vout_mode_told setup output (Got bytes ∷ before) =
    option_or (vout_mode_told setup output before) (good_mode setup.addr output bytes)
vout_mode_told setup output (_ ∷ before) = vout_mode_told setup output before

-- A learn that has read VOUT_MODE reads COEFFICIENTS from then on, for DIRECT, up to the first good answer, which is this.
abbrev pub coefficients_told : Setup → ℕ → List Entry → Option Coefficients
coefficients_told setup output [] = None
coefficients_told setup output (Got bytes ∷ before) =
    option_or (coefficients_told setup output before)
    (if is_some (vout_mode_told setup output before) then good_coefficients setup.addr bytes else None)
coefficients_told setup output (_ ∷ before) = coefficients_told setup output before

-- The tries at COEFFICIENTS of a learn: the entries that came once a good answer for VOUT_MODE was told.
abbrev pub coefficients_tries : Setup → ℕ → List Entry → ℕ
coefficients_tries setup output [] = 0
coefficients_tries setup output (entry ∷ before) =
    if is_some (vout_mode_told setup output before) then suc (coefficients_tries setup output before)
    else 0

-- What a learn found, once it has ended: a format, or None where there is none. A byte of VOUT_MODE
-- has no format by C1 to C4, coefficients have none by N1 and N2.
abbrev pub learn_found : Setup → Option (Result VoutMode TableFault) → Option Coefficients → ℕ → ℕ → Option (Option Shape)
learn_found setup None coefficients tries later = if tries == setup.passes then Some None else None
learn_found setup (Some (Err fault)) coefficients tries later = Some None
learn_found setup (Some (Ok (Linear exponent))) coefficients tries later =
    Some (Some (InUlinear16 exponent))
learn_found setup (Some (Ok Direct)) None tries later =
    if later == setup.passes then Some None else None
learn_found setup (Some (Ok Direct)) (Some coefficients) tries later =
    Some (result_ok (shape_in Direct coefficients))

abbrev pub found : Setup → ℕ → List Entry → Option (Option Shape)
found setup output told = learn_found setup (option_map mode_of (vout_mode_told setup output told))
    (coefficients_told setup output told) (length told) (coefficients_tries setup output told)

abbrev pub learn_end : Setup → ℕ → List Entry → Option JobEnd
learn_end setup output told =
    option_map (λ shape. if is_some shape then Learned else Unknown) (found setup output told)

-- how a job ended, by what was told since it was accepted; None while it is open
abbrev pub job_end : Setup → Job → List Entry → Option JobEnd
job_end setup (Order cell word) told = order_end setup cell word told
job_end setup (Check cell) told = check_end setup cell told
job_end setup (Learn output) told = learn_end setup output told
job_end setup (Send command) told = send_end setup told

-- the frame that an open job sends next
abbrev pub job_message : Setup → Job → List Entry → Message
job_message setup (Order cell word) told =
    if is_write_turn told then cell_write cell word else cell_read cell
job_message setup (Check cell) told = cell_read cell
job_message setup (Learn output) told =
    if is_some (vout_mode_told setup output told) then coefficients_read else mode_read output
job_message setup (Send command) told = command_message command

-- the end of the last job since the last restart; None while it is open, and where there is none
unfoldable pub last_job_end : Setup → List Entry → Option JobEnd
last_job_end setup entries =
    option_and_then (λ job. job_end setup job (told_since entries)) (last_job entries)

-- the job that is open
unfoldable pub open_job : Setup → List Entry → Option Job
open_job setup entries = if is_none (last_job_end setup entries) then last_job entries else None

-- the message whose frame is being sent; None where no job is open
unfoldable pub sending_of : Setup → List Entry → Option Message
sending_of setup entries =
    option_map (λ job. job_message setup job (told_since entries)) (open_job setup entries)

-- the format that a job found for the output, where it is a learn of this output
abbrev pub found_for : Setup → ℕ → Job → List Entry → Option Shape
found_for setup output (Learn learned) told =
    if learned == output then option_and_then (λ shape. shape) (found setup learned told) else None
found_for setup output _ told = None

-- the format of an output's voltages: that of the last learn of it that ended Learned, since the last
-- restart
abbrev pub format_of_output : Setup → List Entry → ℕ → Option Shape
format_of_output setup [] output = None
format_of_output setup (Restarted ∷ before) output = None
format_of_output setup (entry ∷ before) output =
    let told = told_since (entry ∷ before) in
    option_or
    (option_and_then (λ job. found_for setup output job told) (last_job (entry ∷ before)))
    (format_of_output setup before output)
