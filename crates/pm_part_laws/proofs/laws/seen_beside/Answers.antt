use Rattle.pm_part_laws.proofs.Knowledge.{seen}
use Rattle.pm_part_laws.proofs.laws.seen_beside.Goals as goal

pub returns : goal.returns
returns c = seen c.same_settings_live_alike.ensures c.possible_words_are_held.ensures c.lists_say_enough.ensures
