-- Which register each question reads (PMBus 1.3 Part II), and what the bytes that come back answer.
use Rattle.std.specs.Prelude.{ℕ, Bool, false, not, ◌+◌, ◌*◌, ◌==◌, if◌then◌else◌, List, length, slice_index, Option, Some, None, Result, Ok, Err}
use Rattle.pm_frame.specs.declared.fault.FrameFault.{FrameFault}
use Rattle.pm_frame.specs.BlockRead.{block_payload}
use Rattle.pm_frame.specs.FaultWords.{frame_fault_number}
use Rattle.pm_frame.specs.PagedRead.{paged_fault}
use Rattle.pm_table.specs.Codes as command
use Rattle.pm_table.specs.Operation.{has_on}
use Rattle.pm_delivery.specs.declared.question.Question.{Question}
use Rattle.pm_delivery.specs.declared.question.Question.TheVariants.{Before, OvFaultLimit, OvWarnLimit, UvWarnLimit, UvFaultLimit, StatusWord}
use Rattle.pm_delivery.specs.declared.question.Question.TheVariants.{StatusVout, StatusIout, StatusInput, StatusTemperature, ReadVout}
use Rattle.pm_delivery.specs.declared.question.Question.TheVariants.{PowerGoodOn, PowerGoodOff}

-- the command code: STATUS_WORD, VOUT_OV_FAULT_LIMIT, VOUT_OV_WARN_LIMIT, VOUT_UV_WARN_LIMIT, VOUT_UV_FAULT_LIMIT, the status
-- registers, READ_VOUT, POWER_GOOD_ON, POWER_GOOD_OFF
abbrev pub question_code : Question → ℕ
question_code Before = command.status_word
question_code OvFaultLimit = 0x40
question_code OvWarnLimit = 0x42
question_code UvWarnLimit = 0x43
question_code UvFaultLimit = 0x44
question_code StatusWord = command.status_word
question_code StatusVout = command.status_vout
question_code StatusIout = 0x7B
question_code StatusInput = 0x7C
question_code StatusTemperature = 0x7D
question_code ReadVout = command.read_vout
question_code PowerGoodOn = 0x5E
question_code PowerGoodOff = 0x5F

-- how many bytes the register has
abbrev pub question_size : Question → ℕ
question_size StatusVout = 1
question_size StatusIout = 1
question_size StatusInput = 1
question_size StatusTemperature = 1
question_size Before = 2
question_size OvFaultLimit = 2
question_size OvWarnLimit = 2
question_size UvWarnLimit = 2
question_size UvFaultLimit = 2
question_size StatusWord = 2
question_size ReadVout = 2
question_size PowerGoodOn = 2
question_size PowerGoodOff = 2

-- no answer came
abbrev pub no_answer : ℕ
no_answer = 1

-- the word of a payload, its low byte first; of one byte that byte
abbrev pub word_in_payload : List ℕ → ℕ
word_in_payload payload = slice_index payload 0 + slice_index payload 1 * 256

-- the word of a good answer, or the number of what is wrong with the bytes
abbrev pub answer_by : List ℕ → Option FrameFault → Result ℕ ℕ
answer_by bytes None = Ok (word_in_payload (block_payload bytes))
answer_by bytes (Some fault) = Err (frame_fault_number fault)

abbrev pub answer_to_question : ℕ → ℕ → Question → List ℕ → Result ℕ ℕ
answer_to_question addr output question bytes = if length bytes == 0 then Err no_answer
    else answer_by bytes (paged_fault addr output (question_code question) (Some (question_size question)) bytes)

-- the bytes that came back for a read of OPERATION are a good answer with a byte that leaves the output off
abbrev pub off_by : List ℕ → Option FrameFault → Bool
off_by bytes None = not (has_on (word_in_payload (block_payload bytes)))
off_by bytes (Some fault) = false

abbrev pub answers_off : ℕ → ℕ → List ℕ → Bool
answers_off addr output bytes = off_by bytes (paged_fault addr output command.operation (Some 1) bytes)
