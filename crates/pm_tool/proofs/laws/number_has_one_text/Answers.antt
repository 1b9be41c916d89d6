use Rattle.pm_tool.proofs.Texts.{one_text}
use Rattle.pm_tool.proofs.laws.number_has_one_text.Goals as goal

pub returns : goal.returns
returns c = one_text
