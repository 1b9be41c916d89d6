-- A frame that is to be sent, as plain numbers. This project's own choice.
use Rattle.std.specs.Prelude.{◌≡◌, ℕ, if◌then◌else◌, take}
use Rattle.pm_frame.specs.declared.message.Message.{Message}
use Rattle.pm_frame.specs.Fault.{whole_answer}
use Rattle.pm_frame.specs.Layout.{is_read_message}
use Rattle.pm_host.specs.Messages.{IsFrameOf}
use Rattle.pm_memory.specs.declared.sending_image.SendingImage.{SendingImage}

-- what is being sent: nothing, a write or a request, with the bytes before the stop or the repeated
-- start, and how many bytes a whole answer has
abbrev pub idle_kind : ℕ
idle_kind = 0

abbrev pub write_kind : ℕ
write_kind = 1

abbrev pub request_kind : ℕ
request_kind = 2

abbrev pub IsNothing : SendingImage → Type 0
IsNothing sending = (sending.kind ≡ idle_kind) × (sending.length ≡ 0) × (sending.answer ≡ 0)

pub record IsSending (addr : ℕ) (message : Message) (sending : SendingImage) : Type 0 where
  pub kind : sending.kind ≡ (if is_read_message message then request_kind else write_kind)
  pub answer : sending.answer ≡ (if is_read_message message then whole_answer message else 0)
  pub frame : IsFrameOf addr message (take sending.length sending.bytes)
