use Rattle.pm_part_laws.proofs.Knowledge.{exact}
use Rattle.pm_part_laws.proofs.laws.exact_beside.Goals as goal

pub returns : goal.returns
returns c = exact c.same_settings_live_alike.ensures c.possible_words_are_exact.ensures
