use Rattle.std.proofs.Common.{refl}
use Rattle.std.proofs.lemmas.Fmt.{decimal_digit}
use Rattle.pm_lines.specs.Numbers.{hex_byte, hex_word}
use Rattle.pm_tool.proofs.script.reply_text.output_line.Goals as goal

pub returns : goal.returns
unfolding hex_byte hex_word
returns c = rw (decimal_digit c.args.output c.requires, c.hex_digits.ensures, c.hex_digits-2.ensures) refl
