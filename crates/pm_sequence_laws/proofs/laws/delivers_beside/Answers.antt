use Rattle.pm_sequence_laws.proofs.Verdicts.{verdicts}
use Rattle.pm_sequence_laws.proofs.laws.delivers_beside.Goals as goal

pub returns : goal.returns
returns c = verdicts c.betrayal_is_refused.ensures c.damage_is_refused.ensures c.reads_are_answered.ensures
    c.registers_say_what_calls_say.ensures
