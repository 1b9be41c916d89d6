-- What the law of this crate says.
use Rattle.std.specs.Prelude.{◌≡◌, ℕ, ◌<◌, ◌^◌, false, Ok}
use Rattle.pm_num.specs.AnyFormat.{Shape, shape_value}
use Rattle.pm_table.specs.declared.coefficients.Coefficients.{Coefficients}
use Rattle.pm_table.specs.declared.vout_mode.VoutMode.{VoutMode}
use Rattle.pm_table.specs.Format.{shape_in}
use Rattle.pm_table.specs.VoutMode.{mode_of}
use Rattle.pm_model.specs.Commanded.{is_above}
use Rattle.pm_text.specs.ScenarioText.{lowest_word}

-- VOUT_MIN of a text that doesn't name one cuts nothing: it is above no word of the output's voltages
abbrev pub LowestWordsCutNothing : Type 0
LowestWordsCutNothing = (byte word : ℕ) (mode : VoutMode) (c : Coefficients) (shape : Shape) →
    word < 2 ^ 16 → mode_of byte ≡ Ok mode → shape_in mode c ≡ Ok shape →
    is_above (shape_value shape (lowest_word byte c)) (shape_value shape word) ≡ false
