use Rattle.pm_sequence_laws.proofs.Found.{answers-count}
use Rattle.pm_sequence_laws.proofs.laws.earlier_answers_count.Goals as goal

pub returns : goal.returns
returns c = answers-count
