-- A band that lies within limits: no promise, but what proofs above cite.
use Rattle.std.specs.Prelude.{◌≡◌, Bool, true, false, cond, not, ◌||◌, refl}
use Rattle.pm_num.specs.Ratio.{is_above, micros}
use Rattle.pm_limits.specs.declared.band.Band.{Band}
use Rattle.pm_limits.specs.declared.guard.Within.TheVariants as within
use Rattle.pm_limits.specs.Band.{band_within, is_yes}
use Rattle.pm_limits.specs.Bounds.{Bounds}

-- Neither of its ends lies outside.
pub yes-parts : (bounds : Bounds) (band : Band) → is_yes (band_within bounds band) ≡ true →
    (is_above (micros bounds.least) band.least ≡ false) × (is_above band.greatest (micros bounds.most) ≡ false)
yes-parts bounds band said = go (is_above (micros bounds.least) band.least) (is_above band.greatest (micros bounds.most))
    (is_above (micros bounds.least) band.greatest || is_above band.least (micros bounds.most)) said
  where
    go : (low high out : Bool) → is_yes (cond (not (low || high)) within.Yes (cond out within.No within.NotKnown)) ≡ true →
        (low ≡ false) × (high ≡ false)
    go true high true h = cc
    go true high false h = cc
    go false true true h = cc
    go false true false h = cc
    go false false out h = (refl, refl)
