-- Which limits a word of an output's voltage is at or beyond, by its value. A limit that gave no good answer isn't judged. This
-- project's own choice.
use Rattle.std.specs.Prelude.{ℕ, ◌==◌, ◌&&◌, not, if◌then◌else◌, Bool, Option, Some, None}
use Rattle.std.specs.Option.{option_or}
use Rattle.pm_num.specs.AnyFormat.{Shape, shape_value}
use Rattle.pm_num.specs.Ratio.{is_above}
use Rattle.pm_table.specs.Rules.{rule}
use Rattle.pm_delivery.specs.declared.beyond.Judgement.{Judgement}
use Rattle.pm_delivery.specs.declared.beyond.Limit.{Limit}
use Rattle.pm_delivery.specs.declared.delivery.Delivery.{Delivery}
use Rattle.pm_delivery.specs.declared.fault.DeliveryFault.{DeliveryFault}
use Rattle.pm_delivery.specs.declared.fault.DeliveryFault.TheVariants.{BeyondFaultLimit}
use Rattle.pm_delivery.specs.declared.question.Question.{Question}
use Rattle.pm_delivery.specs.declared.question.Question.TheVariants.{OvFaultLimit, OvWarnLimit, UvWarnLimit, UvFaultLimit}
use Rattle.pm_delivery.specs.Deliveries.{heard_of, limits_tell}
use Rattle.pm_delivery.specs.Heard.{is_good}

abbrev pub limit_of : Delivery → Question → Limit
limit_of d register = record { register = register; word = (heard_of d register).word }

-- a word isn't below an upper limit, and not above a lower one
abbrev pub reaches : Delivery → Question → Bool → Option Limit
reaches d register is_inside = rule (is_good (heard_of d register) && not is_inside) (limit_of d register)

abbrev pub reached_upper_limit : Delivery → Question → Shape → ℕ → Option Limit
reached_upper_limit d register shape word =
    reaches d register (is_above (shape_value shape (heard_of d register).word) (shape_value shape word))

abbrev pub reached_lower_limit : Delivery → Question → Shape → ℕ → Option Limit
reached_lower_limit d register shape word =
    reaches d register (is_above (shape_value shape word) (shape_value shape (heard_of d register).word))

-- VOUT_OV_FAULT_LIMIT or VOUT_UV_FAULT_LIMIT; VOUT_OV_WARN_LIMIT or VOUT_UV_WARN_LIMIT
abbrev pub judgement_of : Delivery → Shape → ℕ → Judgement
judgement_of d shape word = record {
  fault = option_or (reached_upper_limit d OvFaultLimit shape word) (reached_lower_limit d UvFaultLimit shape word);
  warning = option_or (reached_upper_limit d OvWarnLimit shape word) (reached_lower_limit d UvWarnLimit shape word);
}

-- P8 where it is a fault limit, and these aren't told alone
abbrev pub refusal_of : Delivery → Option Limit → Option DeliveryFault
refusal_of d None = None
refusal_of d (Some limit) = if d.fault_limits == limits_tell then None else Some (BeyondFaultLimit limit.register limit.word)
