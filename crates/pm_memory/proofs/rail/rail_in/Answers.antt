use Rattle.std.proofs.Common.{◌∙◌, Option, None, refl, ap, subst}
use Rattle.pm_host.specs.Image.{held}
use Rattle.pm_limits.specs.declared.output_limits.OutputLimits.{OutputLimits}
use Rattle.pm_limits.specs.declared.band.Band.{Band}
use Rattle.pm_limits.specs.Band.{band_at, within_of}
use Rattle.pm_host.specs.Summary.{format_at}
use Rattle.pm_limits.specs.declared.part_registers.PartRegisters.{PartRegisters}
use Rattle.pm_memory.specs.Guard.{registers_held}
use Rattle.pm_memory.specs.Limits.{ends_in, within_word, IsEnds}
use Rattle.pm_memory.specs.Rail.{power_word, selected_word}
use Rattle.pm_memory.proofs.rail.rail_in.Goals as goal

pub returns : goal.returns
returns c =
    let told = c.put_known-band.ensures in
    let s = held None c.args.host.now.host.state in
    let known = c.band_in-known.ensures ∙ ap (λ (r : PartRegisters). band_at r s c.args.output) c.registers.ensures in
    record {
      power = c.of_power.ensures ∙ ap power_word c.power_in.ensures;
      selected = c.of_selected.ensures ∙ ap selected_word c.selected_in.ensures;
      within = c.of_within.ensures ∙ ap within_word (c.within_limits.ensures
          ∙ ap (within_of c.limits.result) known
          ∙ ap (λ (l : OutputLimits). within_of l (band_at (registers_held c.args.host.now.registers) s c.args.output)) c.limits.ensures);
      band = told.number ∙ ap (ends_in (format_at s c.args.output)) known;
      ends = λ zero. subst (λ (k : Option Band). IsEnds k c.put_known-band.new.ends) known (told.said zero);
      none = told.refused;
      unused = refl;
    }
