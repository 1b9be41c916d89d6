use Rattle.std.proofs.Common.{◌∙◌, ap, sym}
use Rattle.pm_lines.specs.Lines.{WordsLeft}
use Rattle.pm_text.specs.declared.scenario.fault.ScenarioFault.TheVariants.{Syntax}
use Rattle.pm_text.proofs.scenario.fields.Fields.end.Goals as goal

pub returns-in-Some : goal.returns-in-Some
returns-in-Some c = (
  c.syntax.ensures ∙ ap Syntax (c.in-Some.ensures.line ∙ ap (λ (w : WordsLeft). w.line) c.self.view_is),
  c.in-Some._surplus.now,
  c.next_word.new.self.words,
  ap (λ (w : WordsLeft). w.words) (sym c.self.view_is) ∙ c.in-Some.ensures.words,
)
