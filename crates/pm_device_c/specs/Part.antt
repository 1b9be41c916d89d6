-- What calls of a part in a caller's memory answer and write.
use Rattle.std.specs.Prelude.{◌≡◌, ℕ, Bool, if◌then◌else◌, ◌==◌, List, [], take, drop, Option, Some, None}
use Rattle.pm_num.specs.Ratio.{Ratio}
use Rattle.pm_table.specs.declared.cell.Cell.{Cell}
use Rattle.pm_model.specs.Commanded.{commanded}
use Rattle.pm_model.specs.Settings.{word_at}
use Rattle.pm_device.specs.declared.converter.Ending.{Ending}
use Rattle.pm_device.specs.declared.converter.Ending.TheVariants.{Stop, Restart}
use Rattle.pm_device.specs.declared.converter.Heard.{Heard}
use Rattle.pm_device.specs.declared.converter.Heard.TheVariants.{Answer, Refused}
use Rattle.pm_device.specs.declared.fault.DeviceFault.{DeviceFault}
use Rattle.pm_device.specs.declared.fault.DeviceFault.TheVariants.{Frame}
use Rattle.pm_frame.specs.FaultWords.{frame_fault_number}
use Rattle.pm_device.specs.Held.{Held, value_for}
use Rattle.pm_device_c.specs.declared.reply_image.ReplyImage.{ReplyImage}

-- a stop ends the frame, or a repeated start where this isn't 0
abbrev pub ending_of_number : ℕ → Ending
ending_of_number request = if request == 0 then Stop else Restart

-- the number of a bit
abbrev pub flag_of : Bool → ℕ
flag_of bit = if bit then 1 else 0

-- the bytes of the answer; none where there is none
abbrev pub bytes_of_answer : Heard → List ℕ
bytes_of_answer (Answer frame) = frame.items
bytes_of_answer _ = []

-- the number of the frame's fault, 0 of every other
abbrev pub frame_number : DeviceFault → ℕ
frame_number (Frame fault) = frame_fault_number fault
frame_number _ = 0

-- the fault of a frame that is refused by K1; 0 where it isn't
abbrev pub heard_fault : Heard → ℕ
heard_fault (Refused fault) = frame_number fault
heard_fault _ = 0

-- the bytes of the answer stand in front, and what stands after them stays; beside them the fault of the frame
pub record HasReply (heard : Heard) (before after : ReplyImage) : Type 0 where
  pub bytes : take after.length after.bytes ≡ bytes_of_answer heard
  pub rest : drop after.length after.bytes ≡ drop after.length before.bytes
  pub fault : after.frame_fault ≡ heard_fault heard

-- the reply's memory after what a part heard; it stays as it was if the memory of the part holds none
abbrev pub IsReply : Option Heard → ReplyImage → ReplyImage → Type 0
IsReply None before after = after ≡ before
IsReply (Some heard) before after = HasReply heard before after

-- the word of a cell, and the one that it has in the store
abbrev pub IsWord : Option Held → Option Cell → ℕ → Type 0
IsWord (Some held) (Some cell) word = word ≡ word_at held.words cell
IsWord _ _ word = Unit {0}

abbrev pub IsStored : Option Held → Option Cell → ℕ → Type 0
IsStored (Some held) (Some cell) word = word ≡ word_at held.store cell
IsStored _ _ word = Unit {0}

-- the voltage that an output commands
abbrev pub commanded_now : Held → ℕ → Ratio
commanded_now held output = commanded (value_for held.config output) held.words output
