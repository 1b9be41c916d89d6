-- What `number` is asked, as its texts give it. This project's own choice.
use Rattle.std.specs.Prelude.{ℕ, ℤ, pos, negsuc, Bool, ◌==◌, ◌&&◌, ◌||◌, if◌then◌else◌, int_le, ⊤}
use Rattle.std.specs.Prelude.{List, [], ◌∷◌, Option, Some, None, Result, Ok, Err, codes, option_map}
use Rattle.std.specs.Prelude.{option_and_then}
use Rattle.std.specs.Borrow.{Bor}
use Rattle.std.specs.List.{list_any}
use Rattle.std.specs.Str.{bytes_eq}
use Rattle.pm_num.specs.Formats.{IsExponent}
use Rattle.pm_lines.specs.Digits.{hex_of, signed_of}
use Rattle.pm_tool.specs.declared.numbers.question.FormatText.{FormatText}
use Rattle.pm_tool.specs.declared.numbers.question.FormatText.TheVariants.{Linear11, Ulinear16}
use Rattle.pm_tool.specs.declared.numbers.question.FormatText.TheVariants.{Direct}
use Rattle.pm_tool.specs.declared.numbers.question.Asked.{Asked}
use Rattle.pm_tool.specs.declared.numbers.question.Asked.TheVariants.{Word, Nearest}
use Rattle.pm_tool.specs.declared.numbers.question.Question.{Question}
use Rattle.pm_tool.specs.declared.numbers.fault.NumberFault.{NumberFault}
use Rattle.pm_tool.specs.declared.numbers.fault.NumberFault.TheVariants as fault
use Rattle.pm_trace.specs.Trace.{is_slash}

abbrev pub Text : Type 0
Text = List ℕ

-- ---- the format

-- one more character before the first part
abbrev pub before_parts : ℕ → List Text → List Text
before_parts c [] = (c ∷ []) ∷ []
before_parts c (part ∷ others) = (c ∷ part) ∷ others

-- the parts of a text between marks, of which there is one more than there are marks
abbrev pub parts_by : (ℕ → Bool) → Text → List Text
parts_by is_mark [] = [] ∷ []
parts_by is_mark (c ∷ cs) = if is_mark c then [] ∷ parts_by is_mark cs else before_parts c (parts_by is_mark cs)

-- a colon (58), or a slash (47) in its place
abbrev pub is_colon : ℕ → Bool
is_colon c = c == 58 || c == 47

-- the parts of a text between its colons, and between its commas (44)
abbrev pub parts : Text → List Text
parts = parts_by is_colon

abbrev pub is_comma : ℕ → Bool
is_comma c = c == 44

abbrev pub items : Text → List Text
items = parts_by is_comma

-- ULINEAR16, if the exponent is -16 to 15
abbrev pub exponent_format : ℤ → Option FormatText
exponent_format n =
    if int_le (negsuc 15) n && int_le n (pos 15) then Some (Ulinear16 n) else None

abbrev pub direct_format : Option ℤ → Option ℤ → Option ℤ → Option FormatText
direct_format (Some m) (Some b) (Some r) = Some (Direct m b r)
direct_format _ _ _ = None

-- `linear11`, `ulinear16:N` with N in 8 bits, `direct:M:B:R` with M and B in 16 bits and R in 8; `/` may stand for each `:`
abbrev pub format_by : List Text → Option FormatText
format_by (name ∷ []) = if bytes_eq name (codes "linear11") then Some Linear11 else None
format_by (name ∷ n ∷ []) = if bytes_eq name (codes "ulinear16")
    then option_and_then exponent_format (signed_of 8 n) else None
format_by (name ∷ m ∷ b ∷ r ∷ []) = if bytes_eq name (codes "direct")
    then direct_format (signed_of 16 m) (signed_of 16 b) (signed_of 8 r) else None
format_by _ = None

abbrev pub format_of : Text → Option FormatText
format_of text = format_by (parts text)

-- the exponent of ULINEAR16 is -16 to 15
abbrev pub HasExponent : FormatText → Type 0
HasExponent Linear11 = ⊤
HasExponent (Ulinear16 n) = IsExponent n
HasExponent (Direct m b r) = ⊤

-- a format in which no slash (47) stands for a colon, as `number` has formats
abbrev pub plain_format_of : Text → Option FormatText
plain_format_of text = if list_any is_slash text then None else format_of text

-- ---- what is asked

-- the text of an option that may be absent
abbrev pub text_at : Option (Bor Text) → Option Text
text_at = option_map (λ s. s.now)

-- a value, or the fault that stands for its absence
abbrev pub or_number_fault : {T : Type 0} → Option T → NumberFault → Result T NumberFault
or_number_fault (Some x) fault = Ok x
or_number_fault None fault = Err fault

abbrev pub question_of_format : Option FormatText → Result Asked NumberFault → Result Question NumberFault
question_of_format None asked = Err fault.Format
question_of_format (Some format) (Err f) = Err f
question_of_format (Some format) (Ok asked) = Ok (record { format = format; asked = asked })

-- the question of three texts, of which just one of the word and the millionths is there, or the
-- first fault: OneOf, then Format, then Word or Micro
abbrev pub question : Text → Option Text → Option Text → Result Question NumberFault
question format (Some word) None =
    question_of_format (plain_format_of format) (or_number_fault (option_map (λ w. Word w) (hex_of 4 word)) fault.Word)
question format None (Some micro) = question_of_format (plain_format_of format)
    (or_number_fault (option_map (λ k. Nearest k) (signed_of 64 micro)) fault.Micro)
question format _ _ = Err fault.OneOf

-- the question of the texts that options have
abbrev pub question_of_options : Bor Text → Option (Bor Text) → Option (Bor Text) → Result Question NumberFault
question_of_options format word micro = question format.now (text_at word) (text_at micro)
