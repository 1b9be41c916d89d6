use Rattle.std.proofs.Common.{◌≡◌, ◌∙◌, ℕ, Option, Some, None, ap, subst, sym}
use Rattle.pm_delivery.specs.declared.question.Question.{Question}
use Rattle.pm_delivery.specs.declared.verdict.Verdict.{Verdict}
use Rattle.pm_memory.specs.declared.sequence_image.SaidImage.{SaidImage}
use Rattle.pm_memory.specs.Delivery.{heard_word_of}
use Rattle.pm_memory.specs.SequenceSaid.{numbers_said, said_with, IsSaidBy, IsSaidOf}
use Rattle.pm_memory.proofs.sequence_said.said_after.Goals as goal

pub returns-in-Some : goal.returns-in-Some
returns-in-Some c =
    let d = c.args.is.now.look.delivery in
    let numbers = numbers_said c.args.is.now c.args.act c.args.was in
    let found = c.in-Some.verdict in
    let word = c.word_of.ensures ∙ ap (λ (r : Option Question). heard_word_of d r) c.said_by.ensures in
    let of : IsSaidOf c.args.host.now d numbers found c.said_with.result = record {
      reading = c.reading.result;
      written = c.said_with.ensures ∙ ap (λ (n : SaidImage). said_with n c.word_of.result c.reading.result) c.numbers_said-numbers.ensures
          ∙ ap (λ (w : ℕ). said_with numbers w c.reading.result) word;
      is_reading = c.reading.ensures;
    } in
    subst (λ (rail : Option Verdict). IsSaidBy c.args.host.now d numbers rail c.said_with.result)
    (sym c.in-Some.is ∙ c.rail_said.ensures) of

pub returns-in-None : goal.returns-in-None
returns-in-None c =
    let d = c.args.is.now.look.delivery in
    let numbers = numbers_said c.args.is.now c.args.act c.args.was in
    subst (λ (rail : Option Verdict). IsSaidBy c.args.host.now d numbers rail c.numbers_said-numbers.result)
    (sym c.in-None.is ∙ c.rail_said.ensures) c.numbers_said-numbers.ensures
