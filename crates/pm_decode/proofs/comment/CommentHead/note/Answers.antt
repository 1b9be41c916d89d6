use Rattle.std.proofs.Common.{◌∙◌, ap, take}
use Rattle.pm_lines.specs.Lines.{without_return}
use Rattle.pm_decode.specs.Readings.{note_in}
use Rattle.pm_decode.proofs.comment.CommentHead.note.Goals as goal

-- what is said of the first bytes, by each call in turn
pub returns : goal.returns
returns c = c.note_in.ensures ∙ ap note_in (c.front.ensures
    ∙ ap (take 63) (c.without_carriage_return.ensures ∙ ap without_return (c.deref.ensures.0 ∙ c.self.view_is)))
