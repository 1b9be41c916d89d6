-- What a rail does, by the answers of the last round. This project's own choice.
use Rattle.std.specs.Prelude.{ℕ, not, ◌&&◌, if◌then◌else◌, Bool, Option, Some, None}
use Rattle.std.specs.Option.{option_or}
use Rattle.pm_table.specs.Rules.{rule}
use Rattle.pm_delivery.specs.declared.delivery.Delivery.{Delivery}
use Rattle.pm_delivery.specs.declared.delivery.FaultBit.{FaultBit}
use Rattle.pm_delivery.specs.declared.question.Question.{Question}
use Rattle.pm_delivery.specs.declared.question.Question.TheVariants.{StatusWord, StatusVout, StatusIout, StatusInput, StatusTemperature, ReadVout}
use Rattle.pm_delivery.specs.declared.reading.Reading.{Reading}
use Rattle.pm_delivery.specs.declared.reading.Reading.TheVariants as reading
use Rattle.pm_delivery.specs.declared.verdict.Verdict.{Verdict}
use Rattle.pm_delivery.specs.declared.verdict.Verdict.TheVariants.{Delivers, DeliversByVoltage, IsOff, NewFault, OutsideLimits, Beyond, PowerGoodAlone}
use Rattle.pm_delivery.specs.declared.verdict.Verdict.TheVariants.{NoPowerGood, NotKnown, WentOff, StillOn}
use Rattle.pm_delivery.specs.Deliveries.{has_status, has_vout, heard_of, is_new, is_off, lacks_power_good, new_fault}
use Rattle.pm_delivery.specs.Heard.{is_good}
use Rattle.pm_delivery.specs.StatusBits.{input, iout_pout, temperature, vout}

-- a register gave no good answer, with what was wrong with the last one
abbrev pub not_known : Delivery → Question → Verdict
not_known d register = NotKnown register (heard_of d register).fault

-- a status register whose summary in STATUS_WORD is new, and that gave no good answer
abbrev pub is_status_unanswered : Delivery → Question → ℕ → Bool
is_status_unanswered d register summary = is_new d summary && not (is_good (heard_of d register))

abbrev pub unanswered : Delivery → Option Question
unanswered d = option_or (rule (is_status_unanswered d StatusVout vout) StatusVout)
    (option_or (rule (is_status_unanswered d StatusIout iout_pout) StatusIout)
    (option_or (rule (is_status_unanswered d StatusInput input) StatusInput)
    (rule (is_status_unanswered d StatusTemperature temperature) StatusTemperature)))

-- power good where READ_VOUT is right, and where the part has none
abbrev pub verdict_right : Delivery → Verdict
verdict_right d = if lacks_power_good d then PowerGoodAlone else Delivers

abbrev pub verdict_without : Delivery → Verdict
verdict_without d = if lacks_power_good d then NoPowerGood else Delivers

abbrev pub verdict_with : Delivery → Reading → Verdict
verdict_with d reading.NotKnown = not_known d ReadVout
verdict_with d reading.Outside = OutsideLimits
verdict_with d reading.Above = OutsideLimits
verdict_with d reading.Beyond = Beyond
verdict_with d reading.Right = verdict_right d

abbrev pub verdict_by : Delivery → Reading → Verdict
verdict_by d reading = if has_vout d then verdict_with d reading else verdict_without d

-- nothing speaks against it but what is read, or a status register that isn't known does
abbrev pub verdict_known : Delivery → Reading → Option Question → Verdict
verdict_known d reading None = verdict_by d reading
verdict_known d reading (Some register) = not_known d register

abbrev pub verdict_sound : Delivery → Reading → Option FaultBit → Verdict
verdict_sound d reading None = verdict_known d reading (unanswered d)
verdict_sound d reading (Some fault) = NewFault fault.register fault.place

-- a part without STATUS_WORD is judged by READ_VOUT
abbrev pub verdict_read : Delivery → Reading → Verdict
verdict_read d reading.NotKnown = not_known d ReadVout
verdict_read d reading.Outside = OutsideLimits
verdict_read d reading.Above = OutsideLimits
verdict_read d reading.Beyond = Beyond
verdict_read d reading.Right = DeliversByVoltage

abbrev pub verdict_alone : Delivery → Reading → Verdict
verdict_alone d reading = if has_vout d then verdict_read d reading else not_known d StatusWord

-- a rail that is commanded on, by STATUS_WORD and by what that points to
abbrev pub verdict_status : Delivery → Reading → Verdict
verdict_status d reading = if not (is_good d.status_word) then not_known d StatusWord
    else (if is_off d then IsOff else verdict_sound d reading (new_fault d))

-- a rail that is commanded on
abbrev pub verdict_on : Delivery → Reading → Verdict
verdict_on d reading = if has_status d then verdict_status d reading else verdict_alone d reading

-- a rail that was turned off
abbrev pub verdict_off : Delivery → Verdict
verdict_off d = if not (is_good d.status_word) then not_known d StatusWord else (if is_off d then WentOff else StillOn)
