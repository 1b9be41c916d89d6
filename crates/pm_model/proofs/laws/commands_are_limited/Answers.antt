-- A value that is cut to its limits isn't outside them.
use Rattle.std.proofs.Common.{◌≡◌, Bool, true, false, cond, ◌&&◌, ◌||◌, refl}
use Rattle.pm_num.specs.Lemmas.Order.{not-above-itself}
use Rattle.pm_num.specs.Ratio.{Ratio}
use Rattle.pm_model.specs.Commanded.{commanded, greatest_value, is_above, least_value, limited, selected_value}
use Rattle.pm_model.proofs.laws.commands_are_limited.Goals as goal

-- the cut value isn't above the greatest, by whether the selected one is, and the least one
most : (selected least greatest : Ratio) → is_above (limited selected least greatest) greatest ≡ false
most selected least greatest =
    go (is_above selected greatest) (is_above least selected) (is_above least greatest) refl refl
  where
    go : (over under crossed : Bool) → is_above selected greatest ≡ over → is_above least greatest ≡ crossed →
        is_above (cond (over || under && crossed) greatest (cond under least selected)) greatest ≡ false
    go true under crossed o c = not-above-itself greatest
    go false true true o c = not-above-itself greatest
    go false true false o c = c
    go false false crossed o c = o

-- the least isn't above what is commanded, where it isn't above the greatest
floor : (selected least greatest : Ratio) → is_above least greatest ≡ false →
    is_above least (limited selected least greatest) ≡ false
floor selected least greatest apart =
    go (is_above selected greatest) (is_above least selected) (is_above least greatest) refl apart
  where
    go : (over under crossed : Bool) → is_above least selected ≡ under → crossed ≡ false →
        is_above least (cond (over || under && crossed) greatest (cond under least selected)) ≡ false
    go true under crossed u c = apart
    go false true true u c = apart
    go false true false u c = not-above-itself least
    go false false crossed u c = u

pub returns : goal.returns
unfolding commanded
returns c = record {
  most = λ value words output.
      most (selected_value value words output) (least_value value words output) (greatest_value value words output);
  least = λ value words output.
      floor (selected_value value words output) (least_value value words output) (greatest_value value words output);
}
