use Rattle.std.proofs.Common.{◌∙◌, ap, refl, w64}
use Rattle.pm_lines.specs.Digits.{signed_of}
use Rattle.pm_lines.proofs.ReadDigits.{signed_read}
use Rattle.pm_lines.proofs.digits.read_i64.Goals as goal

pub returns : goal.returns
returns c =
    let plain = c.in_ok-plain_text.ensures in
    c.ok.ensures.value ∙ signed_read w64 64 refl c.parse.result c.in_ok-plain_text.field-0.now c.parse.ensures.value.0 plain.plain
    ∙ ap (signed_of 64) plain.text
