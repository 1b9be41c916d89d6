use Rattle.std.proofs.Common.{◌∙◌, ◌++◌, ap, subst, sym}
use Rattle.pm_tool.specs.Refusals.{Says, line_words, program_line}
use Rattle.pm_tool.proofs.Texts.{line-numbered, put_said}
use Rattle.pm_tool.proofs.text_faults.say_line.Goals as goal

pub returns-in-Some : goal.returns-in-Some
returns-in-Some g c =
    subst (λ line. Says g.E.Write.contents c.args.errors.now c.put_all-in-Some.new.self line)
    (line-numbered c.args.program.now _ c.args.words.now _ c.in-Some.line _ c.as_bytes-in-Some.ensures.value
    c.as_bytes-in-Some-2.ensures.value (c.as_bytes-in-Some-3.ensures.value ∙ c.format.ensures.text)
    ∙ ap (λ o. program_line c.args.program.now (c.args.words.now ++ line_words o)) (sym c.in-Some.is))
    (put_said g.E.Write.contents c.put_all-in-Some.result c.args.errors.now c.put_all-in-Some.new.self _
    c.put_all-in-Some.ensures.all c.put_all-in-Some.ensures.front c.put_all-in-Some.ensures.failed)
