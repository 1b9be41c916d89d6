-- The messages that a host sends, of PMBus 1.3 Part II. An output's settings go by PAGE_PLUS_WRITE
-- and PAGE_PLUS_READ, WRITE_PROTECT, which is the device's, by a plain write byte and a plain read:
-- this project's own choice. PAGE is never sent.
use Rattle.std.specs.Prelude.{◌≡◌, ℕ, true, false, List, if◌then◌else◌}
use Rattle.std.specs.Option.{option_map_or}
use Rattle.pm_table.specs.declared.reg.Reg.{Reg}
use Rattle.pm_table.specs.declared.cell.Cell.{Cell}
use Rattle.pm_table.specs.declared.cell.Cell.TheVariants.{Out, Protect}
use Rattle.pm_table.specs.Cell.{cell_code, is_voltage, register_code}
use Rattle.pm_table.specs.Codes as command
use Rattle.pm_frame.specs.declared.message.Message.{Message}
use Rattle.pm_frame.specs.declared.message.Message.TheVariants.{SendByte, WriteByte, PagePlusWrite, ReadCommand, PagePlusRead}
use Rattle.pm_frame.specs.declared.message.Message.TheVariants.{ReadCoefficients}
use Rattle.pm_frame.specs.declared.message.Payload.{Payload}
use Rattle.pm_frame.specs.declared.message.Payload.TheVariants.{Empty, Byte, Word}
use Rattle.pm_frame.specs.Layout.{IsWrite, IsRequest, is_read_message}
use Rattle.pm_host.specs.declared.command.Command.{Command}
use Rattle.pm_host.specs.Command.{command_code, command_output}

-- the word of a register on the wire: OPERATION has one byte, a voltage two
abbrev pub register_payload : Reg → ℕ → Payload
register_payload register word = if is_voltage register then Word word else Byte word

-- the write of a word to a cell
abbrev pub cell_write : Cell → ℕ → Message
cell_write (Out output register) word =
    PagePlusWrite output (register_code register) (register_payload register word)
cell_write Protect word = WriteByte (cell_code Protect) word

-- the read of a cell
abbrev pub cell_read : Cell → Message
cell_read (Out output register) = PagePlusRead output (register_code register)
cell_read Protect = ReadCommand (cell_code Protect)

-- the read of an output's VOUT_MODE
abbrev pub mode_read : ℕ → Message
mode_read output = PagePlusRead output command.vout_mode

-- the side of COEFFICIENTS for values written
abbrev pub values_written : ℕ
values_written = 0x00

-- the read of the coefficients of VOUT_COMMAND for values written, which all voltages share
abbrev pub coefficients_read : Message
coefficients_read = ReadCoefficients command.vout_command values_written

-- what a command sends: one that names an output goes by PAGE_PLUS_WRITE, with nothing after its code,
-- one of the device by a plain send byte
abbrev pub command_message : Command → Message
command_message sent = option_map_or (λ output. PagePlusWrite output (command_code sent) Empty)
    (command_output sent) (SendByte (command_code sent))

-- the bytes are those that a host puts on the wire for a message
pub record IsFrameOf (addr : ℕ) (message : Message) (bytes : List ℕ) : Type 0 where
  pub write : is_read_message message ≡ false → IsWrite addr message bytes
  pub request : is_read_message message ≡ true → IsRequest addr message bytes
