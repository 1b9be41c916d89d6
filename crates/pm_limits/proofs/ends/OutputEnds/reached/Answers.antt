use Rattle.std.proofs.Common.{◌∙◌, ℕ, ap}
use Rattle.pm_num.specs.AnyFormat.{voltage_value}
use Rattle.pm_model.specs.Commanded.{limited, selected_register}
use Rattle.pm_limits.specs.Ends.{farthest_of}
use Rattle.pm_limits.specs.OutputEnds.{end_in, selected_end_value, word_on}
use Rattle.pm_limits.proofs.ends.OutputEnds.reached.Goals as goal

pub returns : goal.returns
unfolding selected_end_value
returns c =
    let side = c.args.side in
    let value = voltage_value c.args.format.now in
    let ends = c.args.self.now in
    let selected = selected_end_value side value ends (farthest_of side (selected_end_value side value ends) c.args.bytes.now) in
    c.limited.ensures
    ∙ ap (λ (w : ℕ). limited (value w) (value c.on.result) (value c.on-2.result))
    (c.word-selected.ensures ∙ ap (λ (byte : ℕ). word_on side (end_in ends (selected_register byte))) c.farthest.ensures)
    ∙ ap (λ (w : ℕ). limited selected (value w) (value c.on-2.result)) c.on.ensures
    ∙ ap (λ (w : ℕ). limited selected (value (word_on side ends.min)) (value w)) c.on-2.ensures
