-- A look at a rail, and which of its registers turn out to be missing: this project's own choice.
use Rattle.std.specs.Prelude.{ℕ, Bool, true, false, not, ◌&&◌, ◌||◌, ◌==◌, nat_lt, if◌then◌else◌, bit_or, Result}
use Rattle.pm_delivery.specs.declared.delivery.Delivery.{Delivery}
use Rattle.pm_delivery.specs.declared.due.Due.{Due}
use Rattle.pm_delivery.specs.declared.due.Due.TheVariants as due
use Rattle.pm_delivery.specs.declared.heard.Heard.{Heard}
use Rattle.pm_delivery.specs.declared.question.Question.{Question}
use Rattle.pm_delivery.specs.declared.question.Question.TheVariants.{Before, OvFaultLimit, OvWarnLimit, UvWarnLimit, UvFaultLimit, StatusWord}
use Rattle.pm_delivery.specs.declared.question.Question.TheVariants.{StatusVout, StatusIout, StatusInput, StatusTemperature, ReadVout}
use Rattle.pm_delivery.specs.declared.question.Question.TheVariants.{PowerGoodOn, PowerGoodOff}
use Rattle.pm_delivery.specs.Deliveries.{again, heard_of, is_unexplained, look_before, looks_on, with_heard}
use Rattle.pm_delivery.specs.Heard.{asked_more, heard_after}
use Rattle.pm_delivery.specs.Questions.{no_answer}
use Rattle.pm_sequence.specs.declared.look.Look.{Look}
use Rattle.pm_sequence.specs.declared.look.LookAct.{LookAct}
use Rattle.pm_sequence.specs.declared.look.LookAct.TheVariants as act
use Rattle.pm_sequence.specs.declared.look.Probe.{Probe}
use Rattle.pm_sequence.specs.declared.look.Silence.{Silence}

abbrev pub no_silence : Silence
no_silence = record { rounds = 0; has_answered = false }

abbrev pub new_probe : Probe
new_probe = record { asked = 0; is_there = false; is_off = false; is_over = false }

abbrev pub looking : Delivery → Look
looking d = record { delivery = d; stood = d.before; status = no_silence; vout = no_silence; probe = new_probe }

-- no answer came at all
abbrev pub is_silence : Heard → Bool
is_silence h = not (h.asked == 0) && h.fault == no_answer

-- STATUS_WORD before the first order counts as one of its rounds
abbrev pub status_heard : Delivery → Heard
status_heard d = if d.look == look_before then d.before else d.status_word

abbrev pub is_silent_status : Look → Bool
is_silent_status l = is_silence (status_heard l.delivery) && not l.status.has_answered

abbrev pub is_silent_vout : Look → Bool
is_silent_vout l = is_silence l.delivery.read_vout && not l.vout.has_answered

-- a register that is asked in each round gave no answer in this one, nor in any before
abbrev pub is_silent : Look → Bool
is_silent l = is_silent_status l || is_silent_vout l

-- OPERATION is read after such a round, or one in which a rail that is commanded on was off for no new fault, until an answer comes
abbrev pub asks_operation : Look → Bool
asks_operation l = is_silent l || is_unexplained l.delivery

abbrev pub probe_due : ℕ → Look → Bool
probe_due passes l = not l.probe.is_there && nat_lt l.probe.asked passes

-- Such a round counts where the part answered after it. A register that never answered is missing once two count.
abbrev pub more : Bool → Silence → Silence
more silent s = if silent then record { rounds = asked_more s.rounds; has_answered = s.has_answered } else s

abbrev pub lacks : Silence → Bool
lacks s = nat_lt 1 s.rounds && not s.has_answered

abbrev pub probe_over : Probe → Probe
probe_over p = record p { is_over = true }

-- a register that was found to be missing is asked no more: the bits of a delivery that say so
abbrev pub without_status : Bool → Delivery → Delivery
without_status lacking d = if lacking then record d { lacks = bit_or d.lacks 4 } else d

abbrev pub without_vout : Bool → Delivery → Delivery
without_vout lacking d = if lacking then record d { lacks = bit_or d.lacks 8 } else d

abbrev pub counted_there : Look → Look
counted_there l =
    let status = more (is_silent_status l) l.status in
    let vout = more (is_silent_vout l) l.vout in
    record l {
      delivery = without_vout (lacks vout) (without_status (lacks status) l.delivery);
      status = status;
      vout = vout;
      probe = probe_over l.probe;
    }

abbrev pub look_counted : Look → Look
look_counted l = if l.probe.is_there then counted_there l else record l { probe = probe_over l.probe }

-- what comes next, where this is due of the delivery
abbrev pub look_over_act : Due → LookAct
look_over_act due.Again = act.Pause
look_over_act due.Nothing = act.Over
look_over_act (due.Ask question) = act.Over

abbrev pub look_over_after : Look → Due → Look
look_over_after l due.Again = record l { delivery = again l.delivery; probe = new_probe }
look_over_after l due.Nothing = l
look_over_after l (due.Ask question) = l

-- An output that is commanded on, and whose OPERATION leaves it off: its part came up anew, or another one orders.
abbrev pub is_output_lost : Look → Bool
is_output_lost l = looks_on l.delivery && l.probe.is_off

abbrev pub found_act : Bool → Due → LookAct
found_act lost due = if lost then act.Restarted else look_over_act due

abbrev pub found_after : Bool → Look → Due → Look
found_after lost l due = if lost then l else look_over_after l due

abbrev pub round_act : Look → ℕ → Due → LookAct
round_act l passes due = if asks_operation l && not l.probe.is_over then (if probe_due passes l then act.Probe else act.Again)
    else found_act (is_output_lost l) due

abbrev pub round_after : Look → ℕ → Due → Look
round_after l passes due = if asks_operation l && not l.probe.is_over then (if probe_due passes l then l else look_counted l)
    else found_after (is_output_lost l) l due

abbrev pub look_act : Look → ℕ → Due → LookAct
look_act l passes (due.Ask question) = act.Ask question
look_act l passes due.Again = round_act l passes due.Again
look_act l passes due.Nothing = round_act l passes due.Nothing

abbrev pub look_after_due : Look → ℕ → Due → Look
look_after_due l passes (due.Ask question) = l
look_after_due l passes due.Again = round_after l passes due.Again
look_after_due l passes due.Nothing = round_after l passes due.Nothing

-- what came back for a question
abbrev pub noticed : Look → Question → Look
noticed l Before = record l { status = record l.status { has_answered = true } }
noticed l StatusWord = record l { status = record l.status { has_answered = true } }
noticed l ReadVout = record l { vout = record l.vout { has_answered = true } }
noticed l OvFaultLimit = l
noticed l OvWarnLimit = l
noticed l UvWarnLimit = l
noticed l UvFaultLimit = l
noticed l StatusVout = l
noticed l StatusIout = l
noticed l StatusInput = l
noticed l StatusTemperature = l
noticed l PowerGoodOn = l
noticed l PowerGoodOff = l

abbrev pub look_heard : Look → Question → Result ℕ ℕ → Look
look_heard l question answer =
    record l { delivery = with_heard l.delivery question (heard_after (heard_of l.delivery question) answer) }

abbrev pub look_answered : Look → Question → Result ℕ ℕ → Bool → Look
look_answered l question answer silence = if silence then look_heard l question answer else noticed (look_heard l question answer) question

-- what came back for the read of OPERATION: nothing at all, or an answer that leaves the output off, or another one
abbrev pub probed : Look → Bool → Bool → Look
probed l silence off = record l {
  probe = record l.probe { asked = asked_more l.probe.asked; is_there = l.probe.is_there || not silence; is_off = off };
}
