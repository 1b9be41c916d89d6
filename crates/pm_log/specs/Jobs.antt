-- The job that a packet names: no job is written down, since its first frame says which it is. This project's own choice.
use Rattle.std.specs.Prelude.{ℕ, Bool, true, false, ◌+◌, ◌==◌, if◌then◌else◌, List, length, Option, Some, None, option_map, Result, Ok, Err}
use Rattle.pm_table.specs.Cell.{cell_at}
use Rattle.pm_table.specs.Codes as command
use Rattle.pm_frame.specs.declared.fault.FrameFault.{FrameFault}
use Rattle.pm_frame.specs.declared.fault.FrameFault.TheVariants.{UnknownCode}
use Rattle.pm_frame.specs.declared.message.Message.{Message}
use Rattle.pm_frame.specs.declared.message.Message.TheVariants.{SendByte, WriteByte, WriteWord, PagePlusWrite, ReadCommand, PagePlusRead, ReadCoefficients}
use Rattle.pm_frame.specs.declared.message.Payload.{Payload}
use Rattle.pm_frame.specs.declared.message.Payload.TheVariants.{Empty, Byte, Word}
use Rattle.pm_frame.specs.Fault.{write_fault, request_fault}
use Rattle.pm_frame.specs.View.{message_in}
use Rattle.pm_host.specs.Command.{command_of_code}
use Rattle.pm_host.specs.declared.job.Job.{Job}
use Rattle.pm_host.specs.declared.job.Job.TheVariants.{Order, Check, Learn, Send}
use Rattle.pm_log.specs.declared.fault.LogFault.{LogFault}
use Rattle.pm_log.specs.declared.fault.LogFault.TheVariants.{Frame, NoJob}

-- an order of the cell that a code writes, a check of the one that it reads, the sending of a command
abbrev pub order_of_code : ℕ → ℕ → ℕ → Option Job
order_of_code code output word = option_map (λ cell. Order cell word) (cell_at code output)

abbrev pub check_of : ℕ → ℕ → Option Job
check_of code output = option_map (λ cell. Check cell) (cell_at code output)

abbrev pub sending_of_code : ℕ → Option ℕ → Option Job
sending_of_code code output = option_map (λ sent. Send sent) (command_of_code code output)

-- at an output: of a write by its payload, of a read
abbrev pub written_at : ℕ → ℕ → Payload → Option Job
written_at page code Empty = sending_of_code code (Some page)
written_at page code (Byte byte) = order_of_code code page byte
written_at page code (Word word) = order_of_code code page word

abbrev pub job_of_read : ℕ → ℕ → Option Job
job_of_read page code = if code == command.vout_mode then Some (Learn page) else check_of code page

-- the job whose first frame has this message; WRITE_PROTECT is the device's, whatever the output
abbrev pub job_of_message : Message → Option Job
job_of_message (SendByte code) = sending_of_code code None
job_of_message (WriteByte code byte) = order_of_code code 0 byte
job_of_message (WriteWord code word) = None
job_of_message (PagePlusWrite page code payload) = written_at page code payload
job_of_message (ReadCommand code) = check_of code 0
job_of_message (PagePlusRead page code) = job_of_read page code
job_of_message (ReadCoefficients code side) = None

-- ---- a packet for the part at an address

-- the job that a write names, or why there is none
abbrev pub named_write : Option Job → Result (Option Job) LogFault
named_write None = Err NoJob
named_write (Some job) = Ok (Some job)

abbrev pub write_job : Option FrameFault → Message → Result (Option Job) LogFault
write_job (Some fault) message = Err (Frame fault)
write_job None message = named_write (job_of_message message)

-- a request whose last byte is a code that the command table lacks names no job, and isn't one of a host
abbrev pub asks_unknown_code : List ℕ → FrameFault → Bool
asks_unknown_code frame (UnknownCode at) = at + 1 == length frame
asks_unknown_code frame _ = false

-- the job that a request names, if it names one
abbrev pub request_job : List ℕ → Option FrameFault → Message → Result (Option Job) LogFault
request_job frame (Some fault) message = if asks_unknown_code frame fault then Ok None else Err (Frame fault)
request_job frame None message = Ok (job_of_message message)

abbrev pub job_in_frame : ℕ → List ℕ → Bool → Result (Option Job) LogFault
job_in_frame addr frame false = write_job (write_fault addr frame) (message_in frame)
job_in_frame addr frame true = request_job frame (request_fault addr frame) (message_in frame)
