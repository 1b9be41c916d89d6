use Rattle.std.proofs.Common.{◌∙◌, ap}
use Rattle.pm_lines.specs.Digits.{small_of}
use Rattle.pm_lines.proofs.ReadDigits.{small_read}
use Rattle.pm_lines.proofs.digits.read_u8.Goals as goal

pub returns : goal.returns
returns c =
    let plain = c.in_ok-plain_text.ensures in
    c.ok.ensures.value ∙ small_read c.parse.result c.in_ok-plain_text.field-0.now c.parse.ensures.value.0 plain.plain
    ∙ ap small_of plain.text
