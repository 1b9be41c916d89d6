use Rattle.std.proofs.Common.{◌≡◌, rules}
use Rattle.pm_device.specs.Status.{is_output_cut}
use Rattle.pm_device.specs.History.{each_output}
use Rattle.pm_device.proofs.Past.{each_output-by}
use Rattle.pm_device.proofs.converter.Converter.unlatch_all.Goals as goal

pub returns : goal.returns
returns c =
    let held = c.args.self.now in
    let bits : c.from_fn-self-inside.result ≡ each_output (is_output_cut held.config held.words) =
    each_output-by _ _ (search rules) (search rules) in
    search (rules, bits)
