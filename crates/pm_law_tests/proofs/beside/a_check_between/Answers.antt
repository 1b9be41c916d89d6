use Rattle.std.proofs.Common.{◌≡◌, ◌∷◌, None, sym, ◌∙◌, ap}
use Rattle.std.specs.Prelude.{OnOk, Option, Result, Ok, Err}
use Rattle.std.specs.Option.{option_or}
use Rattle.pm_table.specs.declared.cell.Cell.{Cell}
use Rattle.pm_device.specs.Held.{Held}
use Rattle.pm_host.specs.declared.fault.HostFault.{HostFault}
use Rattle.pm_host.specs.declared.job.Job.TheVariants as job
use Rattle.pm_host.specs.Jobs.{Begins, begin_fault}
use Rattle.pm_host.specs.Summary.{Summary, host_next}
use Rattle.pm_host.specs.Transcript as host
use Rattle.pm_world.specs.declared.event.Event.TheVariants.{Check}
use Rattle.pm_world.specs.State.{next, refused}
use Rattle.pm_part_laws.specs.Happenings.{Happens, beside}
use Rattle.pm_law_tests.specs.Beside.{LedTo, PartLife, both_in}
use Rattle.pm_law_tests.proofs.beside.a_check_between.Goals as goal

begun : (life : PartLife) (old new : Summary) (device : Held) (cell : Cell) (result : Result (Unit {0}) HostFault) → LedTo life old device →
    Begins old (job.Check cell) result new →
    OnOk result (LedTo (record life { happened = Happens (Check cell) ∷ life.happened }) new device)
unfolding beside next
begun life old new device cell (Err fault) led begins = tt
begun life old new device cell (Ok done) led begins =
    let free : begin_fault (both_in life).host (job.Check cell) ≡ None =
    ap (λ (s : Summary). begin_fault s (job.Check cell)) (sym led.host_is) ∙ sym begins.fault in
    record {
      lived = record {
        part = led.lived.part;
        spelled = led.lived.spelled;
        made = led.lived.made;
        may = ((ap (λ (f : Option HostFault). option_or (refused f) None) free, tt), led.lived.may);
      };
      host_is = begins.ok ∙ ap (λ (s : Summary). host_next s (host.Accepted (host.Check cell))) led.host_is;
      device_is = led.device_is;
      outputs = ap (λ s. s.outputs) begins.kept ∙ led.outputs;
      config = led.config;
    }

pub returns : goal.returns
returns g c = begun g.life _ _ _ c.args.cell c.begin.result c.requires c.begin.ensures
