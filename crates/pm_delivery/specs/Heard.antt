-- What came of one question. This project's own choice.
use Rattle.std.specs.Prelude.{ℕ, ◌+◌, ◌==◌, ◌&&◌, not, nat_lt, if◌then◌else◌, Bool, Result, Ok, Err}
use Rattle.pm_delivery.specs.declared.heard.Heard.{Heard}

-- nothing was asked
abbrev pub nothing_asked : Heard
nothing_asked = record { asked = 0; fault = 0; word = 0 }

-- a good answer came
abbrev pub is_good : Heard → Bool
is_good h = not (h.asked == 0) && h.fault == 0

-- it is to be asked, where each question is asked so many times at most
abbrev pub is_question_due : ℕ → Heard → Bool
is_question_due passes h = not (is_good h) && nat_lt h.asked passes

-- one answer more, good or not; 255 are counted at most
abbrev pub asked_more : ℕ → ℕ
asked_more n = if nat_lt n 255 then n + 1 else 255

abbrev pub heard_after : Heard → Result ℕ ℕ → Heard
heard_after h (Ok word) = record { asked = asked_more h.asked; fault = 0; word = word }
heard_after h (Err fault) = record { asked = asked_more h.asked; fault = fault; word = 0 }
