use Rattle.std.proofs.Common.{◌∙◌, ap}
use Rattle.pm_device.specs.declared.converter.Ending.TheVariants.{Restart}
use Rattle.pm_device.specs.Effect as device
use Rattle.pm_device.specs.Held.{Held}
use Rattle.pm_device.specs.History.{device_next}
use Rattle.pm_part_laws.specs.Happenings.{beside}
use Rattle.pm_law_tests.specs.Beside.{both_in}
use Rattle.pm_law_tests.proofs.beside.a_read_between.Goals as goal

pub returns : goal.returns
unfolding beside
returns g c =
    let led = c.requires in
    let heard = c.args.bytes.now in
    record {
      lived = record {
        part = led.lived.part;
        spelled = led.lived.spelled;
        made = led.lived.made;
        may = (c.reads_keep_settings.ensures.asks (both_in g.life).device heard, led.lived.may);
      };
      host_is = led.host_is;
      device_is = c.hear.ensures.after ∙ ap (λ (d : Held). device_next d (device.Hearing heard Restart)) led.device_is;
      outputs = led.outputs;
      config = c.hear.ensures.config ∙ led.config;
    }
