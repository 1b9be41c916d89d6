-- What a host asks its device by a request that it repeats until a good answer comes: this project's own
-- choice.
use Rattle.std.specs.Prelude.{ℕ, ◌<◌, Bool, nat_lt}
use Rattle.pm_table.specs.Cell.{is_cell, IsCell}
use Rattle.pm_frame.specs.declared.message.Message.{Message}
use Rattle.pm_host.specs.declared.question.Question.{Question}
use Rattle.pm_host.specs.declared.question.Question.TheVariants.{Word, Mode, Coefficients}
use Rattle.pm_host.specs.Messages.{cell_read, mode_read, coefficients_read}

-- the request
abbrev pub question_message : Question → Message
question_message (Word cell) = cell_read cell
question_message (Mode output) = mode_read output
question_message (Coefficients output) = coefficients_read

-- a device with this many outputs has what is asked for
abbrev pub is_question : ℕ → Question → Bool
is_question outputs (Word cell) = is_cell outputs cell
is_question outputs (Mode output) = nat_lt output outputs
is_question outputs (Coefficients output) = nat_lt output outputs

-- a device with this many outputs has what is asked for: `is_question` as a fact
abbrev pub IsQuestion : ℕ → Question → Type 0
IsQuestion outputs (Word cell) = IsCell outputs cell
IsQuestion outputs (Mode output) = output < outputs
IsQuestion outputs (Coefficients output) = output < outputs

-- how many more frames a job of this many passes may send once the question is answered: a learn that knows
-- VOUT_MODE may ask for the coefficients
abbrev pub frames_after : ℕ → Question → ℕ
frames_after passes (Mode output) = passes
frames_after passes question = 0
