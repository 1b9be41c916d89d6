use Rattle.std.proofs.Common.{[], sym, ◌∙◌, ap, subst}
use Rattle.pm_num.specs.Ratio.{Ratio}
use Rattle.pm_limits.specs.Bounds.{IsWithin}
use Rattle.pm_model.specs.Commanded.{commanded}
use Rattle.pm_device.specs.declared.config.Config.{Config}
use Rattle.pm_device.specs.Held.{Held, value_for}
use Rattle.pm_law_tests.proofs.beside.a_voltage_within_limits.Goals as goal

pub returns : goal.returns
returns g c =
    let life = g.of.life in
    let led = c.requires.0 in
    let output = c.args.output in
    let own = c.limits_beside.ensures.guarded life.held life.passes output g.of.bounds g.of.registers g.of.limits life.happened led.lived
    c.requires.1.0 c.requires.1.1.0 c.requires.1.1.1.0 c.requires.1.1.1.1 in
    subst (λ (v : Ratio). IsWithin g.of.bounds v)
    (sym (c.commanded.ensures.value ∙ (ap (λ (k : Config). commanded (value_for k output) c.args.device.now.words output) led.config
    ∙ ap (λ (d : Held). commanded (value_for life.held.config output) d.words output) led.device_is)))
    (c.limits_beside.ensures.limited life.held life.passes output g.of.bounds [] life.happened led.lived c.requires.1.0 own)
