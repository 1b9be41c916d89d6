use Rattle.std.proofs.Common.{length}
use Rattle.pm_tool.specs.Question.{items}
use Rattle.pm_tool.proofs.commandline.addresses.+add_items.Given as goal

abbrev pub decreases-add_items : goal.decreases-add_items
decreases-add_items l = length (items l.text.now)
