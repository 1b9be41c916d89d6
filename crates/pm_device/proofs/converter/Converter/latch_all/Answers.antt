use Rattle.std.proofs.Common.{◌≡◌, ◌||◌, arith, rules}
use Rattle.std.proofs.lemmas.Grind.{common_steps}
use Rattle.pm_device.specs.Status.{cut_at, is_output_cut}
use Rattle.pm_device.specs.History.{each_output}
use Rattle.pm_device.proofs.Past.{each_output-by}
use Rattle.pm_device.proofs.converter.Converter.latch_all.Goals as goal

pub returns : goal.returns
returns c =
    let held = c.args.self.now in
    let bits : c.from_fn-self-inside.result
    ≡ each_output (λ output. cut_at held.cut output || is_output_cut held.config held.words output) =
    each_output-by _ _ (search rules) (grind (arith, common_steps)) in
    search (rules, bits)
