use Rattle.std.proofs.Common.{◌∙◌, sym}
use Rattle.pm_decode.proofs.Captures.{comment_gathered, comment_noted}
use Rattle.pm_decode.proofs.capture.hear_line.Goals as goal

pub returns-then-is_noted-clause-heard : goal.returns-then-is_noted-clause-heard
returns-then-is_noted-clause-heard c =
    comment_noted c.note.result c.args.options.now c.args.heard.now _ c.args.number c.args.line.now c.note-said.result
    (sym c.is_noted.ensures ∙ c.if-is_noted.true) c.note-said.ensures c.note.ensures.heard

pub returns-then-is_noted-clause-told : goal.returns-then-is_noted-clause-told
returns-then-is_noted-clause-told c =
    comment_gathered c.note.result c.args.options.now c.args.heard.now.known c.args.gathered.now _ c.args.number c.args.line.now
    c.note-said.result (sym c.is_noted.ensures ∙ c.if-is_noted.true) c.note-said.ensures c.note.ensures.told
