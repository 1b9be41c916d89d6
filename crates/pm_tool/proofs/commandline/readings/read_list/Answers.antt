use Rattle.std.proofs.Common.{◌≡◌, ◌∙◌, ◌++◌, List, Option, Some, None, ap, flat_map, option_map, sym}
use Rattle.std.specs.Borrow.{Bor}
use Rattle.pm_trace.specs.declared.formats.GivenFormat.{GivenFormat}
use Rattle.pm_tool.specs.Question.{Text, is_comma, items, text_at}
use Rattle.pm_tool.specs.ReadingList.{Entry, entries_in, entries_left, if_any}
use Rattle.pm_tool.specs.declared.commandline.readings.Listed.{Listed}
use Rattle.pm_tool.proofs.Options.{some_parts}
use Rattle.pm_tool.proofs.commandline.readings.read_list.Goals as goal

-- four entries before others
abbrev four : (a b c d : Option GivenFormat) → List Entry → List Entry
four a b c d es = if_any a ++ (if_any b ++ (if_any c ++ (if_any d ++ es)))

-- there is no room for what is left of a text
no_room : (listed : Listed) (text : Text) → entries_in listed 0 (items text) ≡ None
no_room listed text = let p = some_parts is_comma text in ap (entries_in listed 0) p.2

pub returns-in_err-front : goal.returns-in_err-front
returns-in_err-front c =
    ap (option_map (λ (made : List (Option GivenFormat)). flat_map if_any made)) c.from_residual.ensures
    ∙ sym (c.in_err-front.ensures 4)

pub returns-in_err-back : goal.returns-in_err-back
returns-in_err-back c =
    let f = c.in_ok-front.front in
    ap (option_map (λ (made : List (Option GivenFormat)). flat_map if_any made)) c.from_residual-in_err-back.ensures
    ∙ sym (c.in_ok-front.ensures 4 ∙ ap (option_map (four f.first f.second f.third f.fourth)) (c.in_err-back.ensures 0))

pub returns-in-Some : goal.returns-in-Some
returns-in-Some c =
    let f = c.in_ok-front.front in
    let b = c.in_ok-back.back in
    let left : entries_left c.args.listed 0 (text_at b.left) ≡ None =
    ap (λ (l : Option (Bor Text)). entries_left c.args.listed 0 (text_at l)) c.in-Some.is ∙ no_room c.args.listed c.in-Some.field-0.now in
    sym (c.in_ok-front.ensures 4 ∙ ap (option_map (four f.first f.second f.third f.fourth))
    (c.in_ok-back.ensures 0 ∙ ap (option_map (four b.first b.second b.third b.fourth)) left))

pub returns-in-None : goal.returns-in-None
returns-in-None c =
    let f = c.in_ok-front.front in
    let b = c.in_ok-back.back in
    sym (c.in_ok-front.ensures 4 ∙ ap (option_map (four f.first f.second f.third f.fourth))
    (c.in_ok-back.ensures 0 ∙ ap (λ (l : Option (Bor Text)). option_map (four b.first b.second b.third b.fourth)
    (entries_left c.args.listed 0 (text_at l))) c.in-None.is))
