use Rattle.std.proofs.Common.{length}
use Rattle.pm_tool.proofs.commandline.addresses.+add_texts.Given as goal

abbrev pub decreases-add_texts : goal.decreases-add_texts
decreases-add_texts l = length l.texts.now
