use Rattle.std.proofs.Common.{◌≡◌, ◌∙◌, ℕ, Option, Some, None, ap, refl, sym}
use Rattle.std.specs.Prelude.{length, slice_get}
use Rattle.std.specs.Result.{result_err}
use Rattle.std.proofs.lemmas.Option.{slice_get_past, slice_get_read}
use Rattle.pm_memory.specs.declared.sequence_step.SequenceStepImage.{SequenceStepImage}
use Rattle.pm_memory.specs.Sequence.{step_read}
use Rattle.pm_memory.specs.SequenceStep.{step_in}
use Rattle.pm_memory.proofs.Calls.{one-err}
use Rattle.pm_memory.proofs.sequence.fault_at.Goals as goal

pub returns-in-Some : goal.returns-in-Some
returns-in-Some c =
    let steps = c.args.steps.now in
    let there = c.in-Some.ensures.lookup in
    let read = slice_get_read steps (length steps) c.from.result c.in-Some.image.now refl there.3.0 there.1 in
    let at : Some c.in-Some.image.now ≡ slice_get steps c.args.place = sym read ∙ ap (λ (n : ℕ). slice_get steps n) c.from.ensures in
    c.fault.ensures ∙ one-err (step_in c.in-Some.image.now)
    ∙ ap (λ (o : Option SequenceStepImage). result_err (step_read o)) at

pub returns-in-None : goal.returns-in-None
returns-in-None c =
    let steps = c.args.steps.now in
    let read = slice_get_past steps c.from.result c.in-None.ensures.lookup.3 in
    let at : None ≡ slice_get steps c.args.place = sym read ∙ ap (λ (n : ℕ). slice_get steps n) c.from.ensures in
    ap (λ (o : Option SequenceStepImage). result_err (step_read o)) at
