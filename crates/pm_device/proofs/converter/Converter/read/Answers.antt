use Rattle.std.proofs.Common.{rules, refl, sym}
use Rattle.pm_device.proofs.Start.{none-current, none-config, none-settings, none-store, none-protect, none-page, read-back, same-held}
use Rattle.pm_device.proofs.converter.Converter.read.Goals as goal

pub returns-then-not-is_current : goal.returns-then-not-is_current
returns-then-not-is_current c = let image = c.args.image.now in sym (none-current image (search rules))

pub returns-then-is_some : goal.returns-then-is_some
returns-then-is_some c = let image = c.args.image.now in sym (none-config image (search rules))

pub returns-in_default : goal.returns-in_default
returns-in_default c = let image = c.args.image.now in sym (none-settings image (search rules))

pub returns-in_default-of : goal.returns-in_default-of
returns-in_default-of c = let image = c.args.image.now in sym (none-store image (search rules))

pub returns-then-get-config : goal.returns-then-get-config
returns-then-get-config c = let image = c.args.image.now in sym (none-protect image (search rules))

pub returns-then-config-image : goal.returns-then-config-image
returns-then-config-image c = let image = c.args.image.now in sym (none-page image (search rules))

pub returns : goal.returns
returns c =
    let image = c.args.image.now in
    sym (read-back image _ (search rules)
    (same-held image _ (search rules) (search rules) (search rules) refl (search rules) (search rules) (search rules))
    record {
      config = search rules;
      words = (c.in-Some.settings, search rules);
      store = (c.in-Some-of.store, search rules);
      protect = search rules;
      page = search rules;
    })
