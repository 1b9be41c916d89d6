-- The values of a format that is made have positive denominators: no promise, but what proofs above cite.
use Rattle.std.specs.Prelude.{◌≡◌, ◌≢◌, ◌<◌, ℕ, ℤ, pos, Bool, true, false, cond, Option, Some, None, Ok, Err, refl, option_and_then}
use Rattle.std.proofs.Common.{subst}
use Rattle.std.specs.Ordering.{int_eq}
use Rattle.std.specs.Result.{result_ok}
use Rattle.pm_num.specs.AnyFormat.{Shape, InUlinear16, InDirect}
use Rattle.pm_num.specs.declared.fault.NumFault.TheVariants.{ZeroSlope, ExponentRange}
use Rattle.pm_num.specs.Lemmas.Slope.{direct-has_den}
use Rattle.pm_num.specs.Lemmas.Unsigned.{lower-positive}
use Rattle.pm_table.specs.declared.coefficients.Coefficients.{Coefficients}
use Rattle.pm_table.specs.declared.vout_mode.VoutMode.{VoutMode}
use Rattle.pm_table.specs.declared.vout_mode.VoutMode.TheVariants.{Linear, Direct}
use Rattle.pm_table.specs.Format.{is_decimal, shape_in}
use Rattle.pm_table.specs.VoutMode.{mode_of}
use Rattle.pm_device.specs.declared.config.Config.{Config}
use Rattle.pm_device.specs.Held.{mode_for, shape_for}
use Rattle.pm_device.specs.Start.{IsSound}
use Rattle.pm_limits.specs.Band.{HasDens}

pub slope : (m : ℤ) → int_eq m (pos 0) ≡ false → m ≢ pos 0
slope m h e = let bad : int_eq (pos 0) (pos 0) ≡ false = subst (λ (z : ℤ). int_eq z (pos 0) ≡ false) e h in cc

shape-dens : (mode : VoutMode) (c : Coefficients) (shape : Shape) → result_ok (shape_in mode c) ≡ Some shape → HasDens shape
shape-dens (Linear n) c shape is =
    let same : InUlinear16 n ≡ shape = cc in
    subst (λ (s : Shape). HasDens s) same (λ word. lower-positive n)
shape-dens Direct c shape is = go (int_eq c.m (pos 0)) (is_decimal c) refl is where
  go : (flat decimal : Bool) → int_eq c.m (pos 0) ≡ flat →
      result_ok (cond flat (Err ZeroSlope) (cond decimal (Ok (InDirect c.m c.b c.r)) (Err ExponentRange))) ≡ Some shape → HasDens shape
  go true decimal e is' = cc
  go false false e is' = cc
  go false true e is' =
      let same : InDirect c.m c.b c.r ≡ shape = cc in
      subst (λ (s : Shape). HasDens s) same (λ word. direct-has_den c.m c.b c.r word (slope c.m e))

pub sound-dens : (config : Config) (output : ℕ) → IsSound config → output < config.count → HasDens (shape_for config output)
sound-dens config output sound here = go (result_ok (mode_of (mode_for config output))) (sound.formats output here) where
  go : (mode : Option VoutMode) →
      option_and_then (λ m. result_ok (shape_in m config.coefficients)) mode ≡ Some (shape_for config output) →
      HasDens (shape_for config output)
  go None is = cc
  go (Some mode) is = shape-dens mode config.coefficients (shape_for config output) is
