-- A word of the least value is above no other.
use Rattle.std.proofs.Common.{◌≡◌, ℕ, pos, ◌<◌, ◌^◌, Bool, true, false, cond, Ok, Err, Result, arith, sym, ap, subst}
use Rattle.std.specs.Ordering.{int_eq}
use Rattle.std.proofs.lemmas.Int.{ints}
use Rattle.pm_num.specs.declared.fault.NumFault.{NumFault}
use Rattle.pm_num.specs.declared.fault.NumFault.TheVariants.{ZeroSlope, ExponentRange}
use Rattle.pm_num.specs.AnyFormat.{Shape, InDirect, shape_value}
use Rattle.pm_num.specs.Ratio.{Ratio, AtMost}
use Rattle.pm_num.specs.Value.{direct_least, direct_value, ulinear16_value}
use Rattle.pm_num.specs.Lemmas.Slope.{direct-within}
use Rattle.pm_num.specs.Lemmas.Unsigned.{ulinear16-within}
use Rattle.pm_num.specs.Lemmas.Order.{not-above}
use Rattle.pm_table.specs.declared.coefficients.Coefficients.{Coefficients}
use Rattle.pm_table.specs.declared.vout_mode.VoutMode.{VoutMode}
use Rattle.pm_table.specs.declared.vout_mode.VoutMode.TheVariants.{Linear, Direct}
use Rattle.pm_table.specs.Format.{is_decimal, shape_in}
use Rattle.pm_device.specs.Start.{is_direct}
use Rattle.pm_model.specs.Commanded.{is_above}
use Rattle.pm_text.proofs.laws.lowest_words_cut_nothing.Goals as goal

-- the shape that was made, or another if none was
abbrev shape-or : Result Shape NumFault → Shape → Shape
shape-or (Ok shape) other = shape
shape-or (Err fault) other = other

-- the value of the lowest word of a format that a mode makes isn't above that of any word
lowest : (mode : VoutMode) (k : Coefficients) (shape : Shape) (word : ℕ) → word < 2 ^ 16 → shape_in mode k ≡ Ok shape →
    is_above (shape_value shape (cond (is_direct (Ok mode)) (direct_least k.m) 0)) (shape_value shape word) ≡ false
lowest (Linear n) k shape word small made =
    subst (λ s. is_above (shape_value s 0) (shape_value s word) ≡ false) (ap (λ r. shape-or r shape) made)
    (not-above (ulinear16_value n 0) (ulinear16_value n word) (ulinear16-within n word small).from_least)
lowest Direct k shape word small made = go (int_eq k.m (pos 0)) (is_decimal k) made where
  go : (flat decimal : Bool) → cond flat (Err ZeroSlope) (cond decimal (Ok (InDirect k.m k.b k.r)) (Err ExponentRange)) ≡ Ok shape →
      is_above (shape_value shape (direct_least k.m)) (shape_value shape word) ≡ false
  go true decimal e = cc
  go false false e = cc
  go false true e =
      subst (λ s. is_above (shape_value s (direct_least k.m)) (shape_value s word) ≡ false) (ap (λ r. shape-or r shape) e)
      (not-above (direct_value k.m k.b k.r (direct_least k.m)) (direct_value k.m k.b k.r word)
      (direct-within k.m k.b k.r word small).from_least)

pub returns : goal.returns
returns c byte word mode k shape small named made =
    subst (λ r. is_above (shape_value shape (cond (is_direct r) (direct_least k.m) 0)) (shape_value shape word) ≡ false)
    (sym named) (lowest mode k shape word small made)
