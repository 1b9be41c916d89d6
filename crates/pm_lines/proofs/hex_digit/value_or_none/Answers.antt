-- The table has the value of each digit.
use Rattle.std.proofs.Common.{◌≡◌, ℕ, ◌<◌, ◌^◌, map, get_or, refl, ap, ◌∙◌, arith}
use Rattle.std.specs.Prelude.{unwrap_or}
use Rattle.std.specs.List.{range_with_len}
use Rattle.std.proofs.lemmas.List.FromFn.{get_or-map-range_with_len}
use Rattle.hex.specs.Hex.{hex_digit_value}
use Rattle.pm_lines.specs.declared.hex_digit.TheConstants.{DIGIT_VALUES}
use Rattle.pm_lines.proofs.ReadDigits.{value_small}
use Rattle.pm_lines.proofs.hex_digit.value_or_none.Goals as goal

-- the value of a digit, and 256 for another byte
abbrev value_of : ℕ → ℕ
value_of byte = unwrap_or (hex_digit_value byte) 256

-- the table, place by place
table_is : DIGIT_VALUES ≡ map value_of (range_with_len 0 256)
table_is = refl

-- what it has for a byte
read : (byte : ℕ) → byte < 2 ^ 8 → get_or DIGIT_VALUES byte 0 ≡ value_of byte
read byte h = ap (λ t. get_or t byte 0) table_is ∙ get_or-map-range_with_len value_of 0 256 byte byte 0 h (omega arith)

pub returns-clause-value : goal.returns-clause-value
returns-clause-value c = ap (λ n. get_or DIGIT_VALUES n 0) c.from.ensures ∙ read c.args.byte (omega arith)

pub returns-clause-few : goal.returns-clause-few
returns-clause-few c =
    omega (arith, ap (λ n. get_or DIGIT_VALUES n 0) c.from.ensures ∙ read c.args.byte (omega arith), value_small c.args.byte)
