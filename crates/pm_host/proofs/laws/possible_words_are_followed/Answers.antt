use Rattle.pm_host.proofs.Jobs.{good-words, none-words, put-words, restart-words, restored-words}
use Rattle.pm_host.proofs.laws.possible_words_are_followed.Goals as goal

pub returns : goal.returns
returns c = record { none = none-words; put = put-words; good = good-words; restored = restored-words; restart = restart-words }
