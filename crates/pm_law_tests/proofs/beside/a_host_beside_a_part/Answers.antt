use Rattle.std.proofs.Common.{refl, sym, ◌∙◌, ap, subst}
use Rattle.pm_device.specs.declared.config.Config.{Config}
use Rattle.pm_device.specs.Held.{Held}
use Rattle.pm_device.specs.History.{start_of}
use Rattle.pm_host.specs.Refusals.{IsSetup}
use Rattle.pm_host.specs.Summary.{Summary}
use Rattle.pm_host.specs.Transcript.{Setup}
use Rattle.pm_world.specs.Honest.{IsSpelled}
use Rattle.pm_world.specs.Parts.{IsPart}
use Rattle.pm_part_laws.specs.Happenings.{beside}
use Rattle.pm_law_tests.proofs.beside.a_host_beside_a_part.Goals as goal

pub returns-in-Ok-new : goal.returns-in-Ok-new
unfolding start_of beside
returns-in-Ok-new c =
    let device = c.in-Ok.device in
    let host = c.in-Ok-new.host in
    let made = c.in-Ok.ensures.made in
    let config = c.in-Ok.ensures.config in
    let whole = c.in-Ok-new.ensures.made in
    record {
      lived = record {
        part = subst (λ (d : Held). IsPart d.config d.words d.store) (sym made)
            (c.starts_are_parts.ensures c.args.c c.in-Ok.ensures.sound c.requires.places);
        spelled = subst (λ (k : Config). IsSpelled k) (sym config) c.spell.ensures.spelled;
        made = subst (λ (k : Config). IsSetup (record { addr = k.addr; outputs = k.count; passes = c.args.passes })) (sym config)
            (subst (λ (s : Setup). IsSetup s) (ap (λ (h : Summary). h.setup) whole) c.in-Ok-new.ensures.setup);
        may = tt;
      };
      host_is = whole ∙ ap (λ (k : Config). Rattle.pm_host.specs.Summary.start
          (record { addr = k.addr; outputs = k.count; passes = c.args.passes })) (sym config);
      device_is = refl;
      outputs = ap (λ (h : Summary). h.setup.outputs) whole ∙ ap (λ (k : Config). k.count) (sym config);
      config = refl;
    }
