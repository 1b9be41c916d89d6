use Rattle.std.proofs.Common.{◌≡◌, ◌∙◌, ap₂, length, rules, sym}
use Rattle.pm_lines.proofs.ReadDigits.{word_is, word_of}
use Rattle.pm_lines.proofs.digits.read_word.Goals as goal

pub returns-in_err-low-in-len4 : goal.returns-in_err-low-in-len4
returns-in_err-low-in-len4 c =
    let four : length c.args.text.now ≡ 4 = search rules in
    let word = word_is c.args.text.now four in
    let high = sym c.pair_of.ensures ∙ c.in_ok-high-in-len4.was in
    let low = sym c.pair_of-in-len4.ensures ∙ c.in_err-low-in-len4.was in
    c.from_residual-in_err-low-in-len4.ensures ∙ sym (word ∙ ap₂ word_of high low)

pub returns-in_ok-low-in-len4 : goal.returns-in_ok-low-in-len4
returns-in_ok-low-in-len4 c =
    let four : length c.args.text.now ≡ 4 = search rules in
    let word = word_is c.args.text.now four in
    let high = sym c.pair_of.ensures ∙ c.in_ok-high-in-len4.was in
    let low = sym c.pair_of-in-len4.ensures ∙ c.in_ok-low-in-len4.was in
    rw (c.from.ensures, c.from-in-len4.ensures) (sym (word ∙ ap₂ word_of high low))
