use Rattle.std.proofs.Common.{refl, rules}
use Rattle.pm_device.specs.declared.image.PartImage.{PartImage}
use Rattle.pm_device.proofs.Start.{read-back, same-held}
use Rattle.pm_device.proofs.converter.Converter.write.Goals as goal

pub returns-clause-device : goal.returns-clause-device
returns-clause-device c =
    let image : PartImage = record {
      mark = 0x5443;
      version = 1;
      config = c.of.result;
      page = c.page.result;
      unused = 0;
      latches = c.image.result;
      cut = c.flags_of.result;
      readings = c.image-2.result;
      words = c.words.result;
      store = c.words-2.result;
    } in
    read-back image c.args.self.now refl
    (same-held image c.args.self.now (search rules) (search rules) (search rules) (search rules) (search rules) (search rules)
    (search rules))
    record {
      config = search rules;
      words = (record { count = c.self.inside.settings.count; words = c.self.inside.settings.words }, search rules);
      store = (record { count = c.self.inside.store.count; words = c.self.inside.store.words }, search rules);
      protect = search rules;
      page = search rules;
    }
