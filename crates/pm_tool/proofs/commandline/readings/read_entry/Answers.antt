use Rattle.std.proofs.Common.{◌≡◌, ◌∙◌, ◌∷◌, ℕ, List, Option, Some, ap, arith, sym}
use Rattle.pm_lines.specs.Digits.{hex_of}
use Rattle.pm_tool.specs.Question.{Text, is_colon}
use Rattle.pm_tool.specs.ReadingList.{entry_by, entry_from}
use Rattle.pm_tool.proofs.Options.{some_parts}
use Rattle.pm_tool.proofs.commandline.readings.read_entry.Goals as goal

pub returns-in-Some-read_byte : goal.returns-in-Some-read_byte
returns-in-Some-read_byte c =
    let p = some_parts is_colon c.in-Some.after.now in
    let first = c.in-Some.first.now in
    let number : hex_of 2 first ≡ Some c.in-Some-read_byte.number = grind arith in
    c.read_at_number.ensures p.0 p.1 p.2
    ∙ sym (ap (entry_by c.args.listed) (c.in-Some.ensures ∙ ap (λ (ps : List Text). first ∷ ps) p.2)
    ∙ ap (λ (h : Option ℕ). entry_from c.args.listed h first p.0 p.1) number)
