use Rattle.std.proofs.Common.{◌∙◌, subst}
use Rattle.pm_tool.specs.Refusals.{Says}
use Rattle.pm_tool.proofs.Texts.{lettered, line-host, put_said}
use Rattle.pm_setup.specs.declared.setup_fault.SetupFault.TheVariants.{Host}
use Rattle.pm_tool.proofs.text_faults.say_host.Goals as goal

pub returns : goal.returns
returns g c =
    subst (λ line. Says g.E.Write.contents c.args.errors.now c.put_all.new.self line)
    (lettered c.args.program.now _ c.as_bytes.ensures.value (Host c.args.fault) _ _ (c.as_bytes-2.ensures.value ∙ c.words-setup.ensures)
    ∙ line-host c.args.program.now _ _ (c.as_bytes-3.ensures.value ∙ c.words-words.ensures))
    (put_said g.E.Write.contents c.put_all.result c.args.errors.now c.put_all.new.self _
    c.put_all.ensures.all c.put_all.ensures.front c.put_all.ensures.failed)
