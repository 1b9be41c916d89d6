-- What is cut to limits lies as far out as what it is cut from and its limits do.
use Rattle.std.specs.Prelude.{◌≡◌, ◌<◌, Bool, true, false, cond, ◌&&◌, ◌||◌, refl}
use Rattle.pm_num.specs.Ratio.{Ratio, AtMost, is_above}
use Rattle.pm_model.specs.Commanded.{limited}
use Rattle.pm_limits.specs.declared.ends.Side.{Side}
use Rattle.pm_limits.specs.declared.ends.Side.TheVariants.{Lowest, Highest}
use Rattle.pm_limits.specs.Ends.{Reaches}
use Rattle.pm_num.specs.Lemmas.Order.{above-at-most, at-most, same}
use Rattle.pm_num.specs.Lemmas.Over.{at_most-trans}

-- a selected value and the least and the greatest that limit it, with positive denominators
pub record Cut : Type 0 where
  pub selected : Ratio
  pub least : Ratio
  pub greatest : Ratio
  pub selected_den : 0 < selected.den
  pub least_den : 0 < least.den
  pub greatest_den : 0 < greatest.den

-- the selected value, cut to the least and the greatest
abbrev pub cut_value : Cut → Ratio
cut_value c = limited c.selected c.least c.greatest

-- The cut value is at most the greatest.
pub cut-greatest : (c : Cut) → AtMost (cut_value c) c.greatest
cut-greatest c = go (is_above c.selected c.greatest) (is_above c.least c.selected) (is_above c.least c.greatest) refl refl where
  go : (over under crossed : Bool) → is_above c.selected c.greatest ≡ over → is_above c.least c.greatest ≡ crossed →
      AtMost (cond (over || under && crossed) c.greatest (cond under c.least c.selected)) c.greatest
  go true under crossed o x = same c.greatest
  go false true true o x = same c.greatest
  go false true false o x = at-most c.least c.greatest x
  go false false crossed o x = at-most c.selected c.greatest o

-- The cut value is at least the least, where that isn't above the greatest.
pub cut-least : (c : Cut) → AtMost c.least c.greatest → AtMost c.least (cut_value c)
cut-least c apart = go (is_above c.selected c.greatest) (is_above c.least c.selected) (is_above c.least c.greatest) refl where
  go : (over under crossed : Bool) → is_above c.least c.selected ≡ under →
      AtMost c.least (cond (over || under && crossed) c.greatest (cond under c.least c.selected))
  go true under crossed u = apart
  go false true true u = apart
  go false true false u = same c.least
  go false false crossed u = at-most c.least c.selected u

-- The cut value is at most what the selected value and the least one are at most.
cut-most : (c : Cut) (z : Ratio) → AtMost c.selected z → AtMost c.least z → AtMost (cut_value c) z
cut-most c z s l =
    go (is_above c.selected c.greatest) (is_above c.least c.selected) (is_above c.least c.greatest) refl refl
  where
    go : (over under crossed : Bool) → is_above c.selected c.greatest ≡ over → is_above c.least c.greatest ≡ crossed →
        AtMost (cond (over || under && crossed) c.greatest (cond under c.least c.selected)) z
    go true under crossed o x = at_most-trans c.greatest c.selected z c.selected_den (above-at-most c.selected c.greatest o) s
    go false true true o x = at_most-trans c.greatest c.least z c.least_den (above-at-most c.least c.greatest x) l
    go false true false o x = l
    go false false crossed o x = s

-- The cut value rises with the selected value, the least and the greatest.
pub rises : (c d : Cut) → AtMost c.selected d.selected → AtMost c.least d.least → AtMost c.greatest d.greatest →
    AtMost (cut_value c) (cut_value d)
rises c d s l g =
    go (is_above d.selected d.greatest) (is_above d.least d.selected) (is_above d.least d.greatest) refl
  where
    go : (over under crossed : Bool) → is_above d.least d.selected ≡ under →
        AtMost (cut_value c) (cond (over || under && crossed) d.greatest (cond under d.least d.selected))
    go true under crossed u = at_most-trans (cut_value c) c.greatest d.greatest c.greatest_den (cut-greatest c) g
    go false true true u = at_most-trans (cut_value c) c.greatest d.greatest c.greatest_den (cut-greatest c) g
    go false true false u = cut-most c d.least
        (at_most-trans c.selected d.selected d.least d.selected_den s (above-at-most d.least d.selected u)) l
    go false false crossed u = cut-most c d.selected s
        (at_most-trans c.least d.least d.selected d.least_den l (at-most d.least d.selected u))

-- The cut value reaches as far as another, on either side, where each of its three values does.
pub reaches-cut : (side : Side) (c d : Cut) → Reaches side c.selected d.selected → Reaches side c.least d.least →
    Reaches side c.greatest d.greatest → Reaches side (cut_value c) (cut_value d)
reaches-cut Lowest c d s l g = rises c d s l g
reaches-cut Highest c d s l g = rises d c s l g
