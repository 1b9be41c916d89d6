use Rattle.std.proofs.Common.{subst, sym}
use Rattle.pm_lines.specs.declared.fault.TextFault.TheVariants.{Setup}
use Rattle.pm_tool.specs.Refusals.{Says, program_line, text_refusal}
use Rattle.pm_tool.proofs.text_faults.say_setup.Goals as goal

pub returns-in-Device : goal.returns-in-Device
returns-in-Device g c =
    subst (λ fault. Says g.E.Write.contents c.args.errors.now c.say_config.new.errors
    (program_line c.args.program.now (text_refusal (Setup fault)))) (sym c.in-Device.is) c.say_config.ensures

pub returns-in-Host : goal.returns-in-Host
returns-in-Host g c =
    subst (λ fault. Says g.E.Write.contents c.args.errors.now c.say_host.new.errors
    (program_line c.args.program.now (text_refusal (Setup fault)))) (sym c.in-Host.is) c.say_host.ensures
