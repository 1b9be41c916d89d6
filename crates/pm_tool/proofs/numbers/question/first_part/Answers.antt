use Rattle.pm_tool.proofs.Options.{cut_at_colon}
use Rattle.pm_tool.proofs.numbers.question.first_part.Goals as goal

pub returns : goal.returns
returns c = cut_at_colon c.args.text.now c.split_once.result c.split_once.ensures.cases
