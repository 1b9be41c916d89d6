use Rattle.std.proofs.Common.{subst, sym}
use Rattle.pm_tool.specs.Refusals.{Says, program_line, text_refusal}
use Rattle.pm_tool.proofs.text_faults.say_fault.Goals as goal

pub returns-in-Setup : goal.returns-in-Setup
returns-in-Setup g c =
    subst (λ fault. Says g.E.Write.contents c.args.errors.now c.say_setup.new.errors (program_line c.args.program.now (text_refusal fault)))
    (sym c.in-Setup.is) c.say_setup.ensures
