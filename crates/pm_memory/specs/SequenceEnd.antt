-- How a sequence ends and what a rail does, as plain numbers, and what they mean. This project's own choice.
use Rattle.std.specs.Prelude.{ℕ, ◌%◌, ◌==◌, if◌then◌else◌, Option, Some, None, option_map}
use Rattle.pm_delivery.specs.declared.fault.DeliveryFault.{DeliveryFault}
use Rattle.pm_delivery.specs.declared.fault.DeliveryFault.TheVariants.{BeyondFaultLimit}
use Rattle.pm_delivery.specs.declared.question.Question.{Question}
use Rattle.pm_delivery.specs.declared.question.Question.TheVariants.{OvFaultLimit, OvWarnLimit, UvWarnLimit, UvFaultLimit, StatusWord}
use Rattle.pm_delivery.specs.declared.question.Question.TheVariants.{StatusVout, StatusIout, StatusInput, StatusTemperature, ReadVout}
use Rattle.pm_delivery.specs.declared.question.Question.TheVariants.{PowerGoodOn, PowerGoodOff}
use Rattle.pm_delivery.specs.declared.verdict.Verdict.{Verdict}
use Rattle.pm_delivery.specs.declared.verdict.Verdict.TheVariants as verdict
use Rattle.pm_delivery.specs.FaultWords.{delivery_fault_number}
use Rattle.pm_delivery.specs.Questions.{question_code}
use Rattle.pm_sequence.specs.declared.sequence.End.{End}
use Rattle.pm_sequence.specs.declared.sequence.End.TheVariants as end
use Rattle.pm_stairs.specs.declared.said.StepEnd.{StepEnd}
use Rattle.pm_stairs.specs.declared.said.StepEnd.TheVariants as stop
use Rattle.pm_memory.specs.declared.course_end_image.EndNumbers.{EndNumbers}
use Rattle.pm_memory.specs.declared.sequence_end.SequenceEndImage.{SequenceEndImage}
use Rattle.pm_memory.specs.declared.sequence_end.VerdictNumbers.{VerdictNumbers}
use Rattle.pm_memory.specs.CourseEnd.{end_held, end_numbers, kind_alone}

-- ---- What a rail does ----

-- its kind, the command code of the register that says so, the number of a bit, and what was wrong with an answer
abbrev pub verdict_said : ℕ → ℕ → ℕ → ℕ → VerdictNumbers
verdict_said kind code bit fault = record { kind = kind; code = code; bit = bit; fault = fault }

abbrev pub verdict_numbers : Verdict → VerdictNumbers
verdict_numbers verdict.NotYet = verdict_said 0 0 0 0
verdict_numbers verdict.Delivers = verdict_said 1 0 0 0
verdict_numbers verdict.CommandedOff = verdict_said 2 0 0 0
verdict_numbers verdict.NotKnownOn = verdict_said 3 0 0 0
verdict_numbers verdict.IsOff = verdict_said 4 (question_code StatusWord) 0 0
verdict_numbers (verdict.NewFault register place) = verdict_said 5 (question_code register) place 0
verdict_numbers verdict.OutsideLimits = verdict_said 6 (question_code ReadVout) 0 0
verdict_numbers verdict.Beyond = verdict_said 7 (question_code ReadVout) 0 0
verdict_numbers verdict.PowerGoodAlone = verdict_said 8 (question_code StatusWord) 0 0
verdict_numbers verdict.NoPowerGood = verdict_said 9 (question_code StatusWord) 0 0
verdict_numbers (verdict.NotKnown register fault) = verdict_said 10 (question_code register) 0 fault
verdict_numbers verdict.WentOff = verdict_said 11 0 0 0
verdict_numbers verdict.StillOn = verdict_said 12 (question_code StatusWord) 0 0
verdict_numbers verdict.DeliversByVoltage = verdict_said 14 0 0 0

-- what a command code means: of 79h STATUS_WORD after an order
abbrev pub question_read : ℕ → Option Question
question_read code =
    if code == question_code OvFaultLimit then Some OvFaultLimit
    else (if code == question_code OvWarnLimit then Some OvWarnLimit
    else (if code == question_code UvWarnLimit then Some UvWarnLimit
    else (if code == question_code UvFaultLimit then Some UvFaultLimit
    else (if code == question_code PowerGoodOn then Some PowerGoodOn
    else (if code == question_code PowerGoodOff then Some PowerGoodOff
    else (if code == question_code StatusWord then Some StatusWord
    else (if code == question_code StatusVout then Some StatusVout
    else (if code == question_code StatusIout then Some StatusIout
    else (if code == question_code StatusInput then Some StatusInput
    else (if code == question_code StatusTemperature then Some StatusTemperature
    else (if code == question_code ReadVout then Some ReadVout else None)))))))))))

abbrev pub verdict_of_numbers : VerdictNumbers → Option Verdict
verdict_of_numbers i =
    if i.kind == 0 then Some verdict.NotYet
    else (if i.kind == 1 then Some verdict.Delivers
    else (if i.kind == 2 then Some verdict.CommandedOff
    else (if i.kind == 3 then Some verdict.NotKnownOn
    else (if i.kind == 4 then Some verdict.IsOff
    else (if i.kind == 5 then option_map (λ register. verdict.NewFault register i.bit) (question_read i.code)
    else (if i.kind == 6 then Some verdict.OutsideLimits
    else (if i.kind == 7 then Some verdict.Beyond
    else (if i.kind == 8 then Some verdict.PowerGoodAlone
    else (if i.kind == 9 then Some verdict.NoPowerGood
    else (if i.kind == 10 then option_map (λ register. verdict.NotKnown register i.fault) (question_read i.code)
    else (if i.kind == 11 then Some verdict.WentOff
    else (if i.kind == 12 then Some verdict.StillOn
    else (if i.kind == 14 then Some verdict.DeliversByVoltage else None)))))))))))))

-- ---- Ends ----

abbrev pub end_alone : ℕ → SequenceEndImage
end_alone kind = record { kind = kind; number = 0; code = 0; has_code = 0; verdict = 0; bit = 0; fault = 0; word = 0 }

abbrev pub stopped_numbers : EndNumbers → SequenceEndImage
stopped_numbers i = record (end_alone i.kind) {
  number = i.number;
  code = i.code;
  has_code = i.has_code;
  fault = i.fault;
  word = i.word;
}

-- the end of the step's course, or 7 where the step changed, 8 where a part restarted
abbrev pub stop_numbers : StepEnd → EndNumbers
stop_numbers (stop.Course end) = end_numbers (Some end)
stop_numbers stop.Changed = kind_alone 7
stop_numbers stop.Restarted = kind_alone 8

abbrev pub stop_written : StepEnd → SequenceEndImage
stop_written why = stopped_numbers (stop_numbers why)

abbrev pub beyond_written : DeliveryFault → SequenceEndImage
beyond_written (BeyondFaultLimit limit word) = record (end_alone 11) {
  number = delivery_fault_number (BeyondFaultLimit limit word);
  code = question_code limit;
  word = word;
}

abbrev pub does_numbers : VerdictNumbers → SequenceEndImage
does_numbers i = record (end_alone 14) { code = i.code; verdict = i.kind; bit = i.bit; fault = i.fault }

-- 0 where it goes on; 1 reached; 2 to 8 as a step stops; 10 steps were left, 11 beyond a fault limit, 12 it can't be judged, 14 the rail
-- doesn't do what it is to
abbrev pub end_written : Option End → SequenceEndImage
end_written None = end_alone 0
end_written (Some end.Reached) = end_alone 1
end_written (Some (end.Left steps)) = record (end_alone 10) { word = steps }
end_written (Some (end.Stopped why)) = stop_written why
end_written (Some (end.Beyond fault)) = beyond_written fault
end_written (Some end.Unjudged) = end_alone 12
end_written (Some (end.Does verdict)) = does_numbers (verdict_numbers verdict)

-- what the numbers mean; in memory that was damaged any other kind says that it goes on
abbrev pub stop_read : SequenceEndImage → Option StepEnd
stop_read i =
    if i.kind == 7 then Some stop.Changed
    else (if i.kind == 8 then Some stop.Restarted
    else option_map (λ end. stop.Course end) (end_held (record {
      kind = i.kind;
      number = i.number;
      code = i.code;
      has_code = i.has_code;
      word = i.word;
      fault = i.fault % 256;
    })))

abbrev pub beyond_read : SequenceEndImage → Option End
beyond_read i = option_map (λ limit. end.Beyond (BeyondFaultLimit limit i.word)) (question_read i.code)

abbrev pub does_read : SequenceEndImage → Option End
does_read i = option_map (λ verdict. end.Does verdict) (verdict_of_numbers (verdict_said i.verdict i.code i.bit (i.fault % 256)))

abbrev pub end_read : SequenceEndImage → Option End
end_read i =
    if i.kind == 1 then Some end.Reached
    else (if i.kind == 10 then Some (end.Left i.word)
    else (if i.kind == 11 then beyond_read i
    else (if i.kind == 12 then Some end.Unjudged
    else (if i.kind == 14 then does_read i
    else option_map (λ why. end.Stopped why) (stop_read i)))))
