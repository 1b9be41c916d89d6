use Rattle.std.proofs.Common.{◌∙◌, sym}
use Rattle.pm_tool.proofs.Options.{too_many}
use Rattle.pm_tool.proofs.commandline.lacks.add_text.Goals as goal

pub returns-then-is_some : goal.returns-then-is_some
returns-then-is_some c =
    too_many c.args.lacks.now.parts c.args.text.now c.in-Some.addr.now c.in-Some.names.now c.first_part-2.result c.in-Some.ensures
    c.first_part-2.ensures (sym c.is_some.ensures ∙ c.if-is_some.true)
