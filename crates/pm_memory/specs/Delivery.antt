-- What was heard of a rail, as plain numbers: what a word of it is judged as, and its reading, by the definitions of pm_delivery. This project's own
-- choice.
use Rattle.std.specs.Prelude.{ℕ, ℤ, ◌==◌, ◌&&◌, not, nat_lt, if◌then◌else◌, Bool, false}
use Rattle.std.specs.Prelude.{Option, Some, None, is_some, IfSome, IsSomeAnd}
use Rattle.std.specs.Option.{option_map_or}
use Rattle.pm_num.specs.AnyFormat.{Shape, shape_value}
use Rattle.pm_host.specs.declared.fault.HostFault.TheVariants.{FormatUnknown, UnknownOutput}
use Rattle.pm_host.specs.FaultWords.{host_fault_number}
use Rattle.pm_host.specs.Image.{held, host_of}
use Rattle.pm_host.specs.Summary.{Summary}
use Rattle.pm_delivery.specs.declared.beyond.Judgement.{Judgement}
use Rattle.pm_delivery.specs.declared.beyond.Limit.{Limit}
use Rattle.pm_delivery.specs.declared.delivery.Delivery.{Delivery}
use Rattle.pm_delivery.specs.declared.question.Question.{Question}
use Rattle.pm_delivery.specs.declared.question.Question.TheVariants.{StatusWord, ReadVout}
use Rattle.pm_delivery.specs.declared.verdict.Verdict.{Verdict}
use Rattle.pm_delivery.specs.declared.verdict.Verdict.TheVariants as verdict
use Rattle.pm_delivery.specs.Beyond.{judgement_of, refusal_of}
use Rattle.pm_delivery.specs.Deliveries.{heard_of}
use Rattle.pm_delivery.specs.FaultWords.{delivery_fault_number}
use Rattle.pm_delivery.specs.Heard.{is_good}
use Rattle.pm_delivery.specs.Questions.{question_code}
use Rattle.pm_memory.specs.declared.judgement.JudgementImage.{JudgementImage}
use Rattle.pm_memory.specs.declared.delivery_image.DeliveryImage.{DeliveryImage}
use Rattle.pm_memory.specs.declared.guard_image.GuardImage.{GuardImage}
use Rattle.pm_memory.specs.Numbers.{accepted, no_delivery, no_host}
use Rattle.pm_memory.specs.Voltages.{floor_number, IsFloor}
use Rattle.pm_memory.specs.DeliveryImage.{is_delivery}

-- why nothing is judged: E0h, ECh, and H4 where the host doesn't have the output
abbrev pub asked_number : GuardImage → DeliveryImage → ℕ
asked_number host i = if not (is_some (host_of host.host)) then no_host
    else (if not (is_delivery i) then no_delivery
    else (if nat_lt i.delivery.output host.host.state.outputs then accepted else host_fault_number UnknownOutput))

-- what a host holds beside its open job
abbrev pub idle_host : GuardImage → Summary
idle_host host = held None host.host.state

-- the register that a verdict is said by, and what it held
abbrev pub said_by : Verdict → Option Question
said_by verdict.NotYet = None
said_by verdict.Delivers = None
said_by verdict.CommandedOff = None
said_by verdict.NotKnownOn = None
said_by verdict.IsOff = Some StatusWord
said_by (verdict.NewFault register place) = Some register
said_by verdict.OutsideLimits = Some ReadVout
said_by verdict.Beyond = Some ReadVout
said_by verdict.PowerGoodAlone = Some StatusWord
said_by verdict.NoPowerGood = Some StatusWord
said_by (verdict.NotKnown register fault) = Some register
said_by verdict.WentOff = None
said_by verdict.StillOn = Some StatusWord
said_by verdict.DeliversByVoltage = None

abbrev pub heard_word_of : Delivery → Option Question → ℕ
heard_word_of d register = option_map_or (λ r. (heard_of d r).word) register 0

-- READ_VOUT is told where it gave a good answer, in a format that is known, and isn't beyond 10^15 microvolts
abbrev pub is_floor_told : Option Shape → ℕ → Bool
is_floor_told shape word = option_map_or (λ s. floor_number (shape_value s word) == accepted) shape false

abbrev pub is_voltage_told : Option Shape → Delivery → Bool
is_voltage_told shape d = is_good d.read_vout && is_floor_told shape d.read_vout.word

-- it is rounded down
abbrev pub IsFloorOf : Option Shape → ℕ → Option ℤ → Type 0
IsFloorOf shape word told = IfSome told (λ x. IsSomeAnd shape (λ s. IsFloor (shape_value s word) x))

abbrev pub IsToldVoltage : Option Shape → Delivery → Option ℤ → Type 0
IsToldVoltage shape d told = IsFloorOf shape d.read_vout.word told

-- which limits a word is at or beyond
abbrev pub limit_code : Option Limit → ℕ
limit_code limit = option_map_or (λ (l : Limit). question_code l.register) limit 0

abbrev pub limit_word : Option Limit → ℕ
limit_word limit = option_map_or (λ (l : Limit). l.word) limit 0

abbrev pub judgement_image : Judgement → JudgementImage
judgement_image j = record {
  fault = limit_code j.fault;
  warning = limit_code j.warning;
  fault_word = limit_word j.fault;
  warning_word = limit_word j.warning;
}

abbrev pub judged_number : Option Shape → Delivery → ℕ → ℕ
judged_number None d word = host_fault_number FormatUnknown
judged_number (Some shape) d word = option_map_or delivery_fault_number (refusal_of d (judgement_of d shape word).fault) accepted

abbrev pub judge_number : ℕ → Option Shape → Delivery → ℕ → ℕ
judge_number refusal shape d word = if refusal == accepted then judged_number shape d word else refusal

abbrev pub judgement_by : Option Shape → Delivery → ℕ → JudgementImage → JudgementImage
judgement_by None d word was = was
judgement_by (Some shape) d word was = judgement_image (judgement_of d shape word)

abbrev pub judgement_after : ℕ → Option Shape → Delivery → ℕ → JudgementImage → JudgementImage
judgement_after refusal shape d word was = if refusal == accepted then judgement_by shape d word was else was
