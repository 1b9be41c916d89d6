use Rattle.std.proofs.Common.{◌≡◌, ◌∙◌, ℕ, None, ap, ap₂}
use Rattle.std.proofs.Math.Path.{fun_ext}
use Rattle.pm_num.specs.AnyFormat.{voltage_value, voltage_shape}
use Rattle.pm_num.specs.Ratio.{Ratio}
use Rattle.pm_table.specs.declared.reg.Reg.TheVariants.{VoutMin}
use Rattle.pm_model.specs.Commanded.{limited}
use Rattle.pm_host.specs.Image.{held}
use Rattle.pm_limits.specs.declared.ends.Side.{Side}
use Rattle.pm_limits.specs.declared.ends.Side.TheVariants.{Lowest, Highest}
use Rattle.pm_limits.specs.Band.{end_with, known_of_output, reach, word_end}
use Rattle.pm_limits.specs.Ends.{farthest_of}
use Rattle.pm_limits.specs.OutputEnds.{selected_end_value, word_on}
use Rattle.pm_limits.proofs.band.band_by.Goals as goal

pub returns : goal.returns
unfolding end_with selected_end_value
returns c =
    let value = voltage_value c.args.format.now in
    let shape = voltage_shape c.args.format.now in
    let known = known_of_output c.args.registers shape (held None c.args.host.now) c.args.output in
    let bytes = c.args.bytes.now in
    let ends = c.of-ends.result in
    let at : (side : Side) → limited (selected_end_value side value ends (farthest_of side (selected_end_value side value ends) bytes))
    (value (word_on side ends.min)) (value (word_on side ends.max)) ≡ end_with side shape known bytes
    = λ side.
    let far = fun_ext (λ (byte : ℕ). ap value (c.of-ends.ensures.selected side byte)) in
    ap (λ (v : ℕ → Ratio). limited (v (farthest_of side v bytes)) (value (word_on side ends.min)) (value (word_on side ends.max))) far
    ∙ ap (λ (w : ℕ). limited (reach side shape known (farthest_of side (reach side shape known) bytes)) (value w)
    (value (word_on side ends.max))) (c.of-ends.ensures.least side)
    ∙ ap (λ (w : ℕ). limited (reach side shape known (farthest_of side (reach side shape known) bytes))
    (value (word_end side shape known VoutMin)) (value w)) (c.of-ends.ensures.greatest side)
    in
    ap₂ (λ least greatest. record { least = least; greatest = greatest })
    (c.reached.ensures ∙ at Lowest) (c.reached-2.ensures ∙ at Highest)
