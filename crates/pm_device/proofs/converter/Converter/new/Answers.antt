use Rattle.std.proofs.Common.{refl, sym, ◌∙◌, ap, arith}
use Rattle.pm_table.specs.declared.cell.Cell.TheVariants.{Protect}
use Rattle.pm_model.specs.Settings.{Settings, word_at}
use Rattle.pm_device.proofs.Start.{sound}
use Rattle.pm_device.proofs.converter.Converter.new.Goals as goal

pub start_settings-settings-requires : goal.start_settings-settings-requires
start_settings-settings-requires c = sound c.args.c (sym c.config_fault.ensures ∙ c.in_default.is)

pub invariant_of-made : goal.invariant_of-made
invariant_of-made c = record {
  sound = sound c.args.c (sym c.config_fault.ensures ∙ c.in_default.is);
  shapes = c.formats_of-formats.ensures;
  counted = c.start_settings-settings.ensures.count;
  store = ap (λ (s : Settings). s.count) c.copied.ensures ∙ c.start_settings-settings.ensures.count;
  protection = ap (λ (s : Settings). word_at s.words Protect) c.copied.ensures ∙ c.start_settings-settings.ensures.protection;
  selected = omega (arith, (sound c.args.c (sym c.config_fault.ensures ∙ c.in_default.is)).some);
  latches = refl;
}

pub returns-clause-sound : goal.returns-clause-sound
returns-clause-sound c = sound c.args.c (sym c.config_fault.ensures ∙ c.in_default.is)
