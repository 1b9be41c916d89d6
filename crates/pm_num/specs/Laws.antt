-- What the laws of this crate say, each by a name that a crate above takes it by. They hold of
-- fractions, faults and formats of any size.
use Rattle.std.specs.Prelude.{◌≡◌, ◌≢◌, ◌↔◌, ◌<◌, ◌^◌, ℕ, ℤ, Some}
use Rattle.pm_num.specs.declared.any_format.AnyFormat.TheVariants as any
use Rattle.pm_num.specs.declared.direct.Direct.{Direct}
use Rattle.pm_num.specs.declared.fault.NumFault.{NumFault}
use Rattle.pm_num.specs.declared.fault.NumFault.TheVariants.{BelowLeast, AboveGreatest}
use Rattle.pm_num.specs.declared.ulinear16.Ulinear16.{Ulinear16}
use Rattle.pm_num.specs.AnyFormat.{InUlinear16, InDirect, shape_of}
use Rattle.pm_num.specs.Bounds.{IsAtMost, IsAtLeast}
use Rattle.pm_num.specs.Nearest.{IsNearest, IsOutside, Near}
use Rattle.pm_num.specs.NearestWord.{nearest_word}
use Rattle.pm_num.specs.Parameters.{HasExponent, HasCoefficients}
use Rattle.pm_num.specs.Ratio.{Ratio, AtMost, LessThan, SameValue}

-- N3 is a number strictly below the least value, N4 one strictly above the greatest, and no other
-- fault says that a number lies outside
pub record RefusalsTellTheSide : Type 0 where
  pub below : (least greatest x : Ratio) →
      IsOutside least greatest x BelowLeast ↔ LessThan x least
  pub above : (least greatest x : Ratio) →
      IsOutside least greatest x AboveGreatest ↔ LessThan greatest x
  pub other : (least greatest x : Ratio) (fault : NumFault) →
      fault ≢ BelowLeast → fault ≢ AboveGreatest → ¬ IsOutside least greatest x fault

-- what a format was made from is its shape, and nothing of it is lost
pub record ParametersAreTheShape : Type 0 where
  pub exponent : (f : Ulinear16) (n : ℤ) →
      HasExponent f n ↔ (shape_of (any.Ulinear16 f) ≡ InUlinear16 n)
  pub coefficients : (f : Direct) (m b r : ℤ) →
      HasCoefficients f m b r ↔ (shape_of (any.Direct f) ≡ InDirect m b r)

-- the word that is sought among all words for a fraction is its nearest word, whatever the words
-- stand for
abbrev pub FoundWordsAreNearest : Type 0
FoundWordsAreNearest = (value : ℕ → Ratio) (rank : ℕ → ℕ) (x : Ratio) (w : ℕ) →
    nearest_word value rank x ≡ Some w → IsNearest value rank x w

-- what the nearest words of a format are
pub record NearestWordsHold (value : ℕ → Ratio) (rank : ℕ → ℕ) : Type 0 where
  -- the word for a word's value has that same value
  pub same : (u w : ℕ) → u < 2 ^ 16 → IsNearest value rank (value u) w → SameValue (value w) (value u)
  -- no word is nearer than the one for x
  pub none_nearer : (x : Ratio) (u w : ℕ) → u < 2 ^ 16 → IsNearest value rank x w →
      Near x (value w) (value u)
  -- the word for x has the lower value of two that are equally near to x
  pub tie : (x : Ratio) (u w : ℕ) → u < 2 ^ 16 → IsNearest value rank x w → Near x (value u) (value w) →
      AtMost (value w) (value u)
  -- the word for x is the one that is found among all words
  pub found : (x : Ratio) (w : ℕ) → IsNearest value rank x w → nearest_word value rank x ≡ Some w

-- what the words of bounds are: rounded down and up there is one word at most, the one that is sent for its own value; at and
-- beyond an end of the range its value is that end; and where a word has the number's value, so has its word
pub record BoundsHold (value : ℕ → Ratio) (rank : ℕ → ℕ) (lowest highest : Ratio) : Type 0 where
  pub one_down : (x : Ratio) (u w : ℕ) → IsAtMost value rank x u → IsAtMost value rank x w → u ≡ w
  pub one_up : (x : Ratio) (u w : ℕ) → IsAtLeast value rank x u → IsAtLeast value rank x w → u ≡ w
  pub own_down : (x : Ratio) (w : ℕ) → IsAtMost value rank x w → IsNearest value rank (value w) w
  pub own_up : (x : Ratio) (w : ℕ) → IsAtLeast value rank x w → IsNearest value rank (value w) w
  pub end_down : (x : Ratio) (w : ℕ) → AtMost highest x → IsAtMost value rank x w → SameValue (value w) highest
  pub end_up : (x : Ratio) (w : ℕ) → AtMost x lowest → IsAtLeast value rank x w → SameValue (value w) lowest
  pub hit_down : (x : Ratio) (u w : ℕ) → u < 2 ^ 16 → SameValue (value u) x → IsAtMost value rank x w → SameValue (value w) x
  pub hit_up : (x : Ratio) (u w : ℕ) → u < 2 ^ 16 → SameValue (value u) x → IsAtLeast value rank x w → SameValue (value w) x
