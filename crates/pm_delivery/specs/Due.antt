-- What a delivery asks next. This project's own choice.
use Rattle.std.specs.Prelude.{ℕ, ◌-◌, ◌==◌, ◌&&◌, ◌||◌, not, nat_lt, if◌then◌else◌, Bool, true, false, Option, Some, None, is_some}
use Rattle.std.specs.Option.{option_or}
use Rattle.pm_rail.specs.declared.power.Power.{Power}
use Rattle.pm_rail.specs.declared.power.Power.TheVariants as power
use Rattle.pm_table.specs.Rules.{rule}
use Rattle.pm_delivery.specs.declared.delivery.Delivery.{Delivery}
use Rattle.pm_delivery.specs.declared.due.Due.{Due}
use Rattle.pm_delivery.specs.declared.due.Due.TheVariants.{Ask, Again, Nothing}
use Rattle.pm_delivery.specs.declared.question.Question.{Question}
use Rattle.pm_delivery.specs.declared.question.Question.TheVariants.{Before, OvFaultLimit, OvWarnLimit, UvWarnLimit, UvFaultLimit, StatusWord}
use Rattle.pm_delivery.specs.declared.question.Question.TheVariants.{StatusVout, StatusIout, StatusInput, StatusTemperature, ReadVout}
use Rattle.pm_delivery.specs.declared.question.Question.TheVariants.{PowerGoodOn, PowerGoodOff}
use Rattle.pm_delivery.specs.declared.reading.Reading.{Reading}
use Rattle.pm_delivery.specs.declared.reading.Reading.TheVariants as reading
use Rattle.pm_delivery.specs.declared.verdict.Verdict.{Verdict}
use Rattle.pm_delivery.specs.declared.verdict.Verdict.TheVariants.{Delivers, DeliversByVoltage, PowerGoodAlone}
use Rattle.pm_delivery.specs.Deliveries.{has_status, has_vout, heard_of, is_new, is_off, limits_skip, look_after, look_before, look_off, looks_on, new_fault}
use Rattle.pm_delivery.specs.Heard.{is_question_due, is_good}
use Rattle.pm_delivery.specs.StatusBits.{input, iout_pout, temperature, vout}
use Rattle.pm_delivery.specs.Verdict.{verdict_on}

-- a question is asked until a good answer came, so many times at most
abbrev pub asks : Delivery → ℕ → Question → Option Question
asks d passes question = rule (is_question_due passes (heard_of d question)) question

-- a status register is asked where its summary in STATUS_WORD is new
abbrev pub asks_of : Delivery → ℕ → Question → ℕ → Option Question
asks_of d passes question summary = if is_new d summary then asks d passes question else None

-- STATUS_WORD is asked where the part has it
abbrev pub asks_status : Delivery → ℕ → Question → Option Question
asks_status d passes question = if has_status d then asks d passes question else None

-- a further round is left
abbrev pub is_left : Delivery → Bool
is_left d = nat_lt d.round d.rounds && nat_lt 1 (d.rounds - d.round)

-- READ_VOUT is asked where the part has it, the output isn't off, and no fault is new or a further round is left; of a part without STATUS_WORD
-- always
abbrev pub is_vout_worth_reading : Delivery → Bool
is_vout_worth_reading d = is_good d.status_word && (not (is_off d) && (not (is_some (new_fault d)) || is_left d))

abbrev pub can_decide : Delivery → Bool
can_decide d = has_vout d && (not (has_status d) || is_vout_worth_reading d)

abbrev pub asks_vout : Delivery → ℕ → Option Question
asks_vout d passes = if can_decide d then asks d passes ReadVout else None

-- before an order: STATUS_WORD, and the fault limits and those of warnings, unless they are skipped
abbrev pub asks_limits : Delivery → ℕ → Option Question
asks_limits d passes = if d.fault_limits == limits_skip then None
    else option_or (asks d passes OvFaultLimit) (option_or (asks d passes OvWarnLimit)
    (option_or (asks d passes UvWarnLimit) (asks d passes UvFaultLimit)))

abbrev pub question_due_before : Delivery → ℕ → Option Question
question_due_before d passes = option_or (asks_status d passes Before) (asks_limits d passes)

-- in each round: STATUS_WORD, the status registers whose summary is new, and READ_VOUT
abbrev pub due_in_round : Delivery → ℕ → Option Question
due_in_round d passes = option_or (asks_status d passes StatusWord)
    (option_or (asks_of d passes StatusVout vout)
    (option_or (asks_of d passes StatusIout iout_pout)
    (option_or (asks_of d passes StatusInput input)
    (option_or (asks_of d passes StatusTemperature temperature) (asks_vout d passes)))))

-- a question, where there is one
abbrev pub due_question : Option Question → Due
due_question None = Nothing
due_question (Some question) = Ask question

abbrev pub again_or : Delivery → Option Question → Due
again_or d last = if is_left d then Again else due_question last

-- once a round has ended: nothing more where the rail delivers; otherwise a further round; and in the last one, where power good alone is
-- missing, at which voltages that begins and ends
abbrev pub due_after_round : Delivery → ℕ → Verdict → Due
due_after_round d passes Delivers = Nothing
due_after_round d passes DeliversByVoltage = Nothing
due_after_round d passes PowerGoodAlone = again_or d (option_or (asks d passes PowerGoodOn) (asks d passes PowerGoodOff))
due_after_round d passes verdict = again_or d None

-- A rail fails at once that is off with a new fault, or that is above its upper limit after an order that didn't lower it. What else is wrong may
-- end until the last round.
abbrev pub is_reading_above : Reading → Bool
is_reading_above reading.NotKnown = false
is_reading_above reading.Outside = false
is_reading_above reading.Above = true
is_reading_above reading.Beyond = false
is_reading_above reading.Right = false

abbrev pub fails_at_once : Delivery → Reading → Bool
fails_at_once d reading = is_off d && is_some (new_fault d) || d.look == look_after && is_reading_above reading

abbrev pub due_round_over : Delivery → ℕ → Reading → Due
due_round_over d passes reading = if fails_at_once d reading then Nothing else due_after_round d passes (verdict_on d reading)

abbrev pub due_or : Option Question → Due → Due
due_or None due = due
due_or (Some question) due = Ask question

abbrev pub due_after : Delivery → ℕ → Reading → Due
due_after d passes reading = due_or (due_in_round d passes) (due_round_over d passes reading)

-- after an order that turned the output off: STATUS_WORD, until OFF is 1; nothing of a part without it
abbrev pub due_off : Delivery → ℕ → Due
due_off d passes = if has_status d then due_or (asks d passes StatusWord) (if is_off d then Nothing else again_or d None) else Nothing

-- an output that is commanded off, or isn't known to be on, isn't asked; nor is a part that has neither STATUS_WORD nor READ_VOUT
abbrev pub due_on : Delivery → ℕ → Power → Reading → Due
due_on d passes power.On reading = if has_status d || has_vout d then due_after d passes reading else Nothing
due_on d passes power.Off reading = Nothing
due_on d passes power.NotKnown reading = Nothing

-- what is due, of an output with this power whose last reading stands so
abbrev pub due_of : Delivery → ℕ → Power → Reading → Due
due_of d passes power reading =
    if d.look == look_before then due_question (question_due_before d passes)
    else (if looks_on d then due_on d passes power reading
    else (if d.look == look_off then due_off d passes else Nothing))
