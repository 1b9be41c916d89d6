-- The frames that a host can send, and how many of them a job sends. The layouts are those of PMBus
-- 1.3 Part II; which of them a host uses is this project's own choice.
use Rattle.std.specs.Prelude.{◌≡◌, ℕ, ◌+◌, ◌-◌, ◌*◌, ◌<◌, true, is_some, if◌then◌else◌, List, length}
use Rattle.std.specs.Option.{option_map_or}
use Rattle.pm_table.specs.declared.reg.Reg.{Reg}
use Rattle.pm_table.specs.Cell.{register_code, register_accepts, is_protection}
use Rattle.pm_table.specs.Codes as command
use Rattle.pm_frame.specs.declared.message.Message.{Message}
use Rattle.pm_frame.specs.declared.message.Message.TheVariants.{WriteByte, PagePlusWrite, ReadCommand, PagePlusRead}
use Rattle.pm_host.specs.declared.command.Command.{Command}
use Rattle.pm_host.specs.declared.stage.Stage.{Stage}
use Rattle.pm_host.specs.declared.stage.Stage.TheVariants.{Writes, Reads, Asks, Sends}
use Rattle.pm_host.specs.Cells.{is_command}
use Rattle.pm_host.specs.Messages.{register_payload, coefficients_read, command_message}
use Rattle.pm_host.specs.Question.{frames_after}
use Rattle.pm_host.specs.Summary.{Summary}
use Rattle.pm_host.specs.Transcript.{Setup, Entry, open_job, told_since}

-- a host of this setup can send the message
pub data CanSend (setup : Setup) : Message → Type 0 where
  -- PAGE_PLUS_WRITE of a word to a register of an existing output, which accepts it
  writes_output : (output : ℕ) (register : Reg) (word : ℕ) → output < setup.outputs
      → register_accepts register word ≡ true
      → CanSend setup (PagePlusWrite output (register_code register) (register_payload register word))
  -- a plain write byte to WRITE_PROTECT
  writes_protect : (word : ℕ) → is_protection word ≡ true
      → CanSend setup (WriteByte command.write_protect word)
  -- PAGE_PLUS_READ of a register of an existing output
  reads_output : (output : ℕ) (register : Reg) → output < setup.outputs
      → CanSend setup (PagePlusRead output (register_code register))
  -- a plain read of WRITE_PROTECT
  reads_protect : CanSend setup (ReadCommand command.write_protect)
  -- PAGE_PLUS_READ of VOUT_MODE
  reads_mode : (output : ℕ) → output < setup.outputs
      → CanSend setup (PagePlusRead output command.vout_mode)
  -- the read of the coefficients of VOUT_COMMAND, for values written
  reads_coefficients : CanSend setup coefficients_read
  -- a command, where the output that it names exists
  sends_command : (sent : Command) → is_command setup.outputs sent ≡ true
      → CanSend setup (command_message sent)

-- how many frames the last job has sent, with the one that is being sent
abbrev pub frames_of : Setup → List Entry → ℕ
frames_of setup entries =
    length (told_since entries) + (if is_some (open_job setup entries) then 1 else 0)

-- how many frames a job sends at most from this stage on, with the stage's own
abbrev pub frames_from : ℕ → Stage → ℕ
frames_from passes (Writes cell word pass) = 2 * (passes - pass)
frames_from passes (Reads cell word pass) = 2 * (passes - pass) - 1
frames_from passes (Asks question tries) = (passes - tries) + frames_after passes question
frames_from passes (Sends sent tries) = passes - tries

-- how many frames the open job sends at most from now on, with the one that is being sent; 0 where no
-- job is open
abbrev pub frames_left : Summary → ℕ
frames_left s = option_map_or (frames_from s.setup.passes) s.stage 0
