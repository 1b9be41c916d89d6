use Rattle.pm_part_laws.proofs.Knowledge.{possible}
use Rattle.pm_part_laws.proofs.laws.possible_beside.Goals as goal

pub returns : goal.returns
returns c = possible c.same_settings_live_alike.ensures c.possible_words_are_held.ensures c.lists_say_enough.ensures
