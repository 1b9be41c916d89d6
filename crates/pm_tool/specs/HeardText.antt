-- What a converter answers, in words, if its frames come in lines. This project's own choice.
use Rattle.std.specs.Prelude.{ℕ, List, ◌++◌, codes}
use Rattle.pm_lines.specs.Numbers.{spaced_bytes}
use Rattle.pm_device.specs.FaultWords.{device_fault_text}
use Rattle.pm_device.specs.declared.converter.Heard.{Heard}
use Rattle.pm_device.specs.declared.converter.Heard.TheVariants.{Silent, Taken, Answer, Refused}

-- what the converter answered
abbrev pub reply_words : Heard → List ℕ
reply_words Silent = codes "silent"
reply_words Taken = codes "taken"
reply_words (Answer frame) = codes "answer" ++ spaced_bytes frame.items
reply_words (Refused fault) = codes "refused " ++ device_fault_text fault
