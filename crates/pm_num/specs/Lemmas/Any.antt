-- A format that is chosen at run time: each fact is the chosen format's.
use Rattle.std.specs.Prelude.{ℕ, ◌^◌, ◌<◌, refl}
use Rattle.std.proofs.Common.{lit<}
use Rattle.pm_num.specs.declared.any_format.AnyFormat.{AnyFormat}
use Rattle.pm_num.specs.declared.any_format.AnyFormat.TheVariants.{Linear11, Ulinear16, Direct}
use Rattle.pm_num.specs.Ratio.{IsBetween}
use Rattle.pm_num.specs.Value.{exponent, linear11_least, linear11_greatest}
use Rattle.pm_num.specs.Nearest.{IsValue}
use Rattle.pm_num.specs.AnyFormat.{any_value, any_rank, any_lowest, any_highest}
use Rattle.pm_num.specs.Lemmas.OneWord.{IsOneWord}
use Rattle.pm_num.specs.Lemmas.Unsigned.{lower-positive, ulinear16-within, ulinear16-one_word}
use Rattle.pm_num.specs.Lemmas.Slope.{direct-has_den, direct-within, direct-one_word, direct-least_met, direct-greatest_met}
use Rattle.pm_num.specs.Lemmas.Spelling.{linear11-within, linear11-one_word}

-- The denominators of the format's values are positive.
pub any-has_den : (f : AnyFormat) (w : ℕ) → w < 2 ^ 16 → 0 < (any_value f w).den
any-has_den Linear11 w h = lower-positive (exponent w)
any-has_den (Ulinear16 f) w h = lower-positive f.n
any-has_den (Direct f) w h = direct-has_den f.m f.b f.r w f.slope

-- The format's values lie in its range.
pub any-within : (f : AnyFormat) (w : ℕ) → w < 2 ^ 16 → IsBetween (any_lowest f) (any_highest f) (any_value f w)
any-within Linear11 w h = linear11-within w h
any-within (Ulinear16 f) w h = ulinear16-within f.n w h
any-within (Direct f) w h = direct-within f.m f.b f.r w h

-- A word has the least value of the format.
pub any-least_met : (f : AnyFormat) → IsValue (any_value f) (any_lowest f)
any-least_met Linear11 = (linear11_least, lit< tt, refl)
any-least_met (Ulinear16 f) = (0, lit< tt, refl)
any-least_met (Direct f) = direct-least_met f.m f.b f.r

-- A word has the greatest value of the format.
pub any-greatest_met : (f : AnyFormat) → IsValue (any_value f) (any_highest f)
any-greatest_met Linear11 = (linear11_greatest, lit< tt, refl)
any-greatest_met (Ulinear16 f) = (0xFFFF, lit< tt, refl)
any-greatest_met (Direct f) = direct-greatest_met f.m f.b f.r

-- No two words have one value and one rank in the format.
pub any-one_word : (f : AnyFormat) → IsOneWord (any_value f) (any_rank f)
any-one_word Linear11 = linear11-one_word
any-one_word (Ulinear16 f) = ulinear16-one_word f.n
any-one_word (Direct f) = direct-one_word f.m f.b f.r f.slope
