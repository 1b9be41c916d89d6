-- What `number` prints and what it refuses: the word that is asked for, its value in the format,
-- the whole millionths of that value, and the line of these. The line's form is this project's own.
use Rattle.std.specs.Prelude.{◌≡◌, ◌≢◌, ℕ, ℤ, pos, ◌^◌, ◌<◌, ◌≤◌, ◌≤ℤ◌, ⊤}
use Rattle.std.specs.Prelude.{List, ◌++◌, Result, Ok, Err, codes, unsigned_abs}
use Rattle.std.specs.Fmt.{decimal, signed_decimal}
use Rattle.pm_num.specs.Formats.{IsDecimal}
use Rattle.pm_num.specs.Nearest.{IsNearest, IsOutside, linear11_rank, one_rank}
use Rattle.pm_num.specs.Ratio.{AtMost, Ratio, micros}
use Rattle.pm_num.specs.Value.{direct_greatest, direct_least, direct_value, linear11_value}
use Rattle.pm_num.specs.Value.{ulinear16_value}
use Rattle.pm_num.specs.declared.fault.NumFault.{NumFault}
use Rattle.pm_num.specs.declared.fault.NumFault.TheVariants as num
use Rattle.pm_tool.specs.declared.numbers.question.FormatText.{FormatText}
use Rattle.pm_tool.specs.declared.numbers.question.FormatText.TheVariants.{Linear11, Ulinear16}
use Rattle.pm_tool.specs.declared.numbers.question.FormatText.TheVariants.{Direct}
use Rattle.pm_tool.specs.declared.numbers.question.Asked.{Asked}
use Rattle.pm_tool.specs.declared.numbers.question.Asked.TheVariants.{Word, Nearest}
use Rattle.pm_tool.specs.declared.numbers.question.Question.{Question}
use Rattle.pm_tool.specs.declared.numbers.answer.Answer.{Answer}
use Rattle.pm_lines.specs.declared.fault.TextFault.TheVariants as text
use Rattle.pm_lines.specs.Numbers.{hex_word}
use Rattle.pm_tool.specs.declared.numbers.fault.NumberFault.{NumberFault}
use Rattle.pm_tool.specs.declared.numbers.fault.NumberFault.TheVariants as fault

-- ---- the format that a text names

-- the fraction that a word stands for
abbrev pub value_in : FormatText → ℕ → Ratio
value_in Linear11 = linear11_value
value_in (Ulinear16 n) = ulinear16_value n
value_in (Direct m b r) = direct_value m b r

-- the rank that says which of several words for one value comes first
abbrev pub rank_in : FormatText → ℕ → ℕ
rank_in Linear11 = linear11_rank
rank_in (Ulinear16 n) = one_rank
rank_in (Direct m b r) = one_rank

-- the least and the greatest value of its words
abbrev pub least_in : FormatText → Ratio
least_in Linear11 = linear11_value 0x7C00
least_in (Ulinear16 n) = ulinear16_value n 0
least_in (Direct m b r) = direct_value m b r (direct_least m)

abbrev pub greatest_in : FormatText → Ratio
greatest_in Linear11 = linear11_value 0x7BFF
greatest_in (Ulinear16 n) = ulinear16_value n 65535
greatest_in (Direct m b r) = direct_value m b r (direct_greatest m)

-- ---- the refusals, each with its condition

-- a format that can't be: DIRECT with the slope 0, or else with an exponent outside -12 to 12
abbrev pub RefusesFormat : FormatText → NumFault → Type 0
RefusesFormat (Direct m b r) num.ZeroSlope = m ≡ pos 0
RefusesFormat (Direct m b r) num.ExponentRange = (m ≢ pos 0) × ¬ IsDecimal r
RefusesFormat _ _ = ⊥

-- the format can be
abbrev pub IsFormat : FormatText → Type 0
IsFormat (Direct m b r) = (m ≢ pos 0) × IsDecimal r
IsFormat _ = ⊤

-- a value that has no word between the least and the greatest value: more than 10^15 millionths,
-- or else a value below the least or above the greatest
abbrev pub RefusesValue : Ratio → Ratio → Asked → NumFault → Type 0
RefusesValue least greatest (Word word) fault = ⊥
RefusesValue least greatest (Nearest k) num.TooLarge = 10 ^ 15 < unsigned_abs k
RefusesValue least greatest (Nearest k) fault =
    (unsigned_abs k ≤ 10 ^ 15) × IsOutside least greatest (micros k) fault

-- the format comes first
abbrev pub Refuses : Question → NumFault → Type 0
Refuses asked num.ZeroSlope = RefusesFormat asked.format num.ZeroSlope
Refuses asked num.ExponentRange = RefusesFormat asked.format num.ExponentRange
Refuses asked fault = IsFormat asked.format
    × RefusesValue (least_in asked.format) (greatest_in asked.format) asked.asked fault

-- a question that isn't one has no such refusal
abbrev pub RefusesNumber : Result Question NumberFault → NumFault → Type 0
RefusesNumber (Err refusal) fault = ⊥
RefusesNumber (Ok asked) fault = Refuses asked fault

-- ---- the answer

-- the word itself, or the one for this many millionths
abbrev pub IsAskedWord : (ℕ → Ratio) → (ℕ → ℕ) → Asked → ℕ → Type 0
IsAskedWord value rank (Word given) word = word ≡ given
IsAskedWord value rank (Nearest k) word = IsNearest value rank (micros k) word

-- k is the greatest whole number of millionths that isn't above the value
pub record IsFloorMicro (value : Ratio) (k : ℤ) : Type 0 where
  pub reached : AtMost (micros k) value
  pub greatest : (j : ℤ) → AtMost (micros j) value → j ≤ℤ k

pub record IsAnswer (value : ℕ → Ratio) (rank : ℕ → ℕ) (asked : Asked) (answer : Answer)
    : Type 0 where
  pub word : IsAskedWord value rank asked answer.word
  pub value_is : answer.value ≡ value answer.word
  pub floor : IsFloorMicro answer.value answer.millionths

-- ---- the line

-- `word HHHH value NUM/DEN micro K` and LF
abbrev pub number_line_of : Answer → List ℕ
number_line_of answer = codes "word " ++ hex_word answer.word
    ++ codes " value " ++ signed_decimal answer.value.num ++ codes "/" ++ decimal answer.value.den
    ++ codes " micro " ++ signed_decimal answer.millionths ++ codes "\n"

-- the text is the line of the question's answer
abbrev pub IsNumberText : Result Question NumberFault → List ℕ → Type 0
IsNumberText (Err refusal) text = ⊥
IsNumberText (Ok asked) text = (answer : Answer)
    × IsAnswer (value_in asked.format) (rank_in asked.format) asked.asked answer
    × (text ≡ number_line_of answer)

-- ---- which refusals come

-- a fault of the command line, which is found before any number is looked at
abbrev pub IsCommandLineFault : NumberFault → Type 0
IsCommandLineFault fault.OneOf = ⊤
IsCommandLineFault fault.Format = ⊤
IsCommandLineFault fault.Word = ⊤
IsCommandLineFault fault.Micro = ⊤
IsCommandLineFault _ = ⊥

-- the faults that may come at all: no text is read, so X1 to X4 don't
abbrev pub IsOfNumber : NumberFault → Type 0
IsOfNumber (fault.Text text.Write) = ⊤
IsOfNumber (fault.Text text.Memory) = ⊤
IsOfNumber (fault.Text _) = ⊥
IsOfNumber _ = ⊤

-- a question has one text at most if its format can be
abbrev pub NumberHasOneText : Type 0
NumberHasOneText = (asked : Question) → IsFormat asked.format → (a b : List ℕ) →
    IsNumberText (Ok asked) a → IsNumberText (Ok asked) b → a ≡ b
