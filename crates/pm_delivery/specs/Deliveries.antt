-- What a delivery holds, and what its answers say of the rail. This project's own choice, by the bits that the standard has.
use Rattle.std.specs.Prelude.{ℕ, ◌+◌, ◌==◌, ◌&&◌, ◌||◌, not, nat_lt, if◌then◌else◌, Bool, List, find, Option, None, is_some, option_map}
use Rattle.std.specs.Option.{option_or}
use Rattle.pm_delivery.specs.declared.delivery.Delivery.{Delivery}
use Rattle.pm_delivery.specs.declared.delivery.FaultBit.{FaultBit}
use Rattle.pm_delivery.specs.declared.heard.Heard.{Heard}
use Rattle.pm_delivery.specs.declared.question.Question.{Question}
use Rattle.pm_delivery.specs.declared.question.Question.TheVariants.{Before, OvFaultLimit, OvWarnLimit, UvWarnLimit, UvFaultLimit, StatusWord}
use Rattle.pm_delivery.specs.declared.question.Question.TheVariants.{StatusVout, StatusIout, StatusInput, StatusTemperature, ReadVout}
use Rattle.pm_delivery.specs.declared.question.Question.TheVariants.{PowerGoodOn, PowerGoodOff}
use Rattle.pm_delivery.specs.Heard.{is_good, nothing_asked}
use Rattle.pm_delivery.specs.StatusBits.{has_bit, input, iout_pout, off, power_good_not, status_input_faults, status_iout_faults}
use Rattle.pm_delivery.specs.StatusBits.{status_temperature_faults, status_vout_faults, status_word_faults, temperature, vout}

-- what is looked at: nothing, what stands before an order, what the output does after one that leaves it on, after one that turns it off, and
-- after one that leaves it on and lowers it
abbrev pub look_nowhere : ℕ
look_nowhere = 0

abbrev pub look_before : ℕ
look_before = 1

abbrev pub look_after : ℕ
look_after = 2

abbrev pub look_off : ℕ
look_off = 3

abbrev pub look_lowered : ℕ
look_lowered = 4

-- what is done about fault limits: nothing is ordered at one, or it is told, or they aren't read
abbrev pub limits_tell : ℕ
limits_tell = 1

abbrev pub limits_skip : ℕ
limits_skip = 2

-- the bits of what a part lacks: STATUS_WORD and READ_VOUT, as the caller says, and as was found
abbrev pub lacks_status_word : ℕ
lacks_status_word = 0

abbrev pub lacks_read_vout : ℕ
lacks_read_vout = 1

abbrev pub found_no_status_word : ℕ
found_no_status_word = 2

abbrev pub found_no_read_vout : ℕ
found_no_read_vout = 3

-- nothing was asked of an output
abbrev pub new_delivery : ℕ → ℕ → ℕ → ℕ → ℕ → Delivery
new_delivery output limits lacks within rounds = record {
  output = output;
  look = look_nowhere;
  fault_limits = limits;
  lacks = lacks;
  within = within;
  rounds = rounds;
  round = 0;
  before = nothing_asked;
  ov_fault_limit = nothing_asked;
  ov_warn_limit = nothing_asked;
  uv_warn_limit = nothing_asked;
  uv_fault_limit = nothing_asked;
  status_word = nothing_asked;
  status_vout = nothing_asked;
  status_iout = nothing_asked;
  status_input = nothing_asked;
  status_temperature = nothing_asked;
  read_vout = nothing_asked;
  power_good_on = nothing_asked;
  power_good_off = nothing_asked;
}

-- one of two bits says that the part lacks a register
abbrev pub lacks_any : Delivery → ℕ → ℕ → Bool
lacks_any d said found = has_bit d.lacks said || has_bit d.lacks found

-- STATUS_WORD is one of the part's registers, and READ_VOUT is
abbrev pub has_status : Delivery → Bool
has_status d = not (lacks_any d lacks_status_word found_no_status_word)

abbrev pub has_vout : Delivery → Bool
has_vout d = not (lacks_any d lacks_read_vout found_no_read_vout)

-- what a round asks first
abbrev pub first_question : Delivery → Question
first_question d = if has_status d then StatusWord else ReadVout

-- what stands before an order is looked at: all that was heard is forgotten
abbrev pub looking_before : Delivery → Delivery
looking_before d = record (new_delivery d.output d.fault_limits d.lacks d.within d.rounds) { look = look_before }

-- a round begins: what was heard of the output is forgotten, and what stood before the first order is kept
abbrev pub in_round : Delivery → ℕ → Delivery
in_round d round = record d {
  round = round;
  status_word = nothing_asked;
  status_vout = nothing_asked;
  status_iout = nothing_asked;
  status_input = nothing_asked;
  status_temperature = nothing_asked;
  read_vout = nothing_asked;
  power_good_on = nothing_asked;
  power_good_off = nothing_asked;
}

-- what the output does is looked at, after an order that turned it off, or that lowered it, or another one
abbrev pub look_of : Bool → Bool → ℕ
look_of is_off lowers = if is_off then look_off else (if lowers then look_lowered else look_after)

abbrev pub looking_after : Delivery → Bool → Bool → Delivery
looking_after d is_off lowers = record (in_round d 0) { look = look_of is_off lowers }

-- what an output does that is commanded on is looked at
abbrev pub looks_on : Delivery → Bool
looks_on d = d.look == look_after || d.look == look_lowered

-- a further round begins
abbrev pub next_round : ℕ → ℕ
next_round n = if nat_lt n 65535 then n + 1 else 65535

abbrev pub again : Delivery → Delivery
again d = in_round d (next_round d.round)

-- what came of a question
abbrev pub heard_of : Delivery → Question → Heard
heard_of d Before = d.before
heard_of d OvFaultLimit = d.ov_fault_limit
heard_of d OvWarnLimit = d.ov_warn_limit
heard_of d UvWarnLimit = d.uv_warn_limit
heard_of d UvFaultLimit = d.uv_fault_limit
heard_of d StatusWord = d.status_word
heard_of d StatusVout = d.status_vout
heard_of d StatusIout = d.status_iout
heard_of d StatusInput = d.status_input
heard_of d StatusTemperature = d.status_temperature
heard_of d ReadVout = d.read_vout
heard_of d PowerGoodOn = d.power_good_on
heard_of d PowerGoodOff = d.power_good_off

-- this came of a question
abbrev pub with_heard : Delivery → Question → Heard → Delivery
with_heard d Before h = record d { before = h }
with_heard d OvFaultLimit h = record d { ov_fault_limit = h }
with_heard d OvWarnLimit h = record d { ov_warn_limit = h }
with_heard d UvWarnLimit h = record d { uv_warn_limit = h }
with_heard d UvFaultLimit h = record d { uv_fault_limit = h }
with_heard d StatusWord h = record d { status_word = h }
with_heard d StatusVout h = record d { status_vout = h }
with_heard d StatusIout h = record d { status_iout = h }
with_heard d StatusInput h = record d { status_input = h }
with_heard d StatusTemperature h = record d { status_temperature = h }
with_heard d ReadVout h = record d { read_vout = h }
with_heard d PowerGoodOn h = record d { power_good_on = h }
with_heard d PowerGoodOff h = record d { power_good_off = h }

-- a bit of STATUS_WORD is 1
abbrev pub has : Delivery → ℕ → Bool
has d place = is_good d.status_word && has_bit d.status_word.word place

-- It is, and it wasn't known to be before the first order. Where nothing was asked before, since nothing was ordered, no bit is new.
abbrev pub is_new : Delivery → ℕ → Bool
is_new d place = has d place && (not (d.before.asked == 0) && not (is_good d.before && has_bit d.before.word place))

-- the output is off, and power good is missing
abbrev pub is_off : Delivery → Bool
is_off d = has d off

abbrev pub lacks_power_good : Delivery → Bool
lacks_power_good d = has d power_good_not

-- the first of some bits of a register that is 1
abbrev pub register_fault_bit : Question → ℕ → FaultBit
register_fault_bit register place = record { register = register; place = place }

-- a fault of a status register whose summary in STATUS_WORD is new
abbrev pub status_fault : Delivery → Question → ℕ → List ℕ → Option FaultBit
status_fault d register summary places = if is_new d summary && is_good (heard_of d register)
    then option_map (register_fault_bit register) (find (has_bit (heard_of d register).word) places) else None

-- The fault that is new: of STATUS_WORD itself, or of a status register whose summary is.
abbrev pub new_fault : Delivery → Option FaultBit
new_fault d = option_or (option_map (register_fault_bit StatusWord) (find (is_new d) status_word_faults))
    (option_or (status_fault d StatusVout vout status_vout_faults)
    (option_or (status_fault d StatusIout iout_pout status_iout_faults)
    (option_or (status_fault d StatusInput input status_input_faults)
    (status_fault d StatusTemperature temperature status_temperature_faults))))

-- OFF is 1 of an output that is commanded on, and no new fault says why
abbrev pub is_unexplained : Delivery → Bool
is_unexplained d = looks_on d && (is_off d && not (is_some (new_fault d)))
