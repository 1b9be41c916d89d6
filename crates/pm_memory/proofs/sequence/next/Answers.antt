use Rattle.std.proofs.Common.{◌≡◌, ◌∙◌, ℕ, List, Some, refl, sym, subst}
use Rattle.std.specs.Prelude.{length}
use Rattle.std.specs.Result.{result_err}
use Rattle.pm_sequence.specs.declared.sequence.Sequence.{Sequence}
use Rattle.pm_sequence.specs.Frames.{HandsOut}
use Rattle.pm_memory.specs.declared.sequence_image.SequenceImage.{SequenceImage}
use Rattle.pm_memory.specs.Guard.{guard_of}
use Rattle.pm_memory.specs.Hosted.{guard_in}
use Rattle.pm_memory.specs.SequenceImage.{sequence_image, sequence_meant}
use Rattle.pm_memory.specs.declared.sequence_step.SequenceRecordImage.{SequenceRecordImage}
use Rattle.pm_memory.specs.Sequence.{hands_next, number_sent, records_after, refused_next, step_at, step_under, AreAsked, NextIn}
use Rattle.pm_memory.proofs.Calls.{fault-steps, no-first, no-second, calls_numbered}
use Rattle.pm_memory.proofs.sequence.next.Goals as goal

pub returns-in-Err : goal.returns-in-Err
returns-in-Err c = refused_next c.in-Err.number c.clear.new.self c.in-Err.ensures.fault c.clear.ensures

pub returns-in-Some : goal.returns-in-Some
returns-in-Some c =
    let wrong = fault-steps c.args.host.now c.args.sequence.now c.args.steps.now (length c.args.records.now) c.in-Some.number
    c.in-Ok.ensures.both c.in-Ok.ensures.list (sym c.steps_fault.ensures ∙ c.in-Some.is) in
    refused_next c.in-Some.number c.clear-in-Some.new.self wrong c.clear-in-Some.ensures

pub put_under-requires-clause-right : goal.put_under-requires-clause-right
put_under-requires-clause-right c =
    no-first (result_err (step_under c.args.steps.now c.args.sequence.now.list.begun))
    (result_err (step_at c.args.steps.now c.args.sequence.now.list.begun)) (sym c.steps_fault.ensures ∙ c.in_default.is)

pub put_step-requires-clause-right : goal.put_step-requires-clause-right
put_step-requires-clause-right c =
    no-second (result_err (step_under c.args.steps.now c.args.sequence.now.list.begun))
    (result_err (step_at c.args.steps.now c.args.sequence.now.list.begun)) (sym c.steps_fault.ensures ∙ c.in_default.is)

pub returns : goal.returns
returns c =
    let host = c.args.host.now in
    let new = c.hand_out-at.new.host in
    let image = c.args.sequence.now in
    let g = guard_in host in
    let next = guard_in new in
    let q = sequence_meant image in
    let is = c.hand_out-at.new.self in
    let at = c.hand_out-at.result.0 in
    let act = c.hand_out-at.result.1 in
    let told = c.said_after-said.result in
    let steps = c.args.steps.now in
    let records = c.args.records.now in
    let under = c.put_under.new.step in
    let ahead = c.put_step.new.step in
    let found : guard_of new ≡ Some next = rw (c.hand_out-at.ensures.there.there) refl in
    let put = c.put.ensures in
    let asked : AreAsked host image steps (length records) g q under ahead = record {
      guard = c.in-Ok.ensures.both.guard;
      held = c.in-Ok.ensures.both.held;
      list = c.in-Ok.ensures.list;
      under_at = c.put_under.ensures;
      ahead_at = c.put_step.ensures;
    } in
    let does : HandsOut g under ahead q put.sent act next is =
    subst (λ (x : Sequence). HandsOut g under ahead x put.sent act next is) c.hold.ensures
    (c.hand_out-at.ensures.hands put.sent put.of_stage) in
    let number : c.number_next.result ≡ number_sent put.sent act =
    c.number_next.ensures ∙ calls_numbered next at put.sent act put.of_stage in
    subst (λ (n : ℕ). NextIn host image steps records n new c.write.new.self c.keep.new.records c.put.new.sending) (sym number)
    (subst (λ (i : SequenceImage). NextIn host image steps records (number_sent put.sent act) new i c.keep.new.records c.put.new.sending)
    (sym c.write.ensures)
    (subst (λ (r : List SequenceRecordImage). NextIn host image steps records (number_sent put.sent act) new (sequence_image is told) r
    c.put.new.sending) (sym c.keep.ensures)
    (hands_next g next q is under ahead put.sent act new told c.put.new.sending asked does put.frame
    c.said_after-said.ensures (record { guard = found; written = c.hand_out-at.ensures.written }))))
