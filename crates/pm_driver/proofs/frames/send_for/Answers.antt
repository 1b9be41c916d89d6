use Rattle.std.proofs.Common.{◌≡◌, ◌<◌, ℕ, List, replicate, take, sym, subst}
use Rattle.std.proofs.lemmas.List.{take-replicate}
use Rattle.std.specs.Prelude.{IsSomeAnd}
use Rattle.pm_frame.specs.Layout.{IsRequest, IsWrite}
use Rattle.pm_host.specs.Frames.{frames_left}
use Rattle.pm_host.specs.Summary.{Summary, sending_in}
use Rattle.pm_host.specs.Sound.{IsSound}
use Rattle.pm_host.specs.Transcript.{Finished, Got}
use Rattle.pm_driver.specs.Acts.{Read, Wrote}
use Rattle.pm_driver.proofs.CourseSteps.{call-carries, heard-so, told-keeps}
use Rattle.pm_driver.proofs.Jobs.{spends, room-empty}
use Rattle.pm_driver.proofs.frames.send_for.Goals as goal

pub returns-in-Write-clause-carries : goal.returns-in-Write-clause-carries
returns-in-Write-clause-carries g c =
    call-carries c.laws_of_lives.ensures g.B.Bus.gives g.B.Bus.held g.B.Bus.restarts (Wrote c.as_slice.result.now c.write-acked.result)
    c.args.guard.now c.write_ended.new.host c.args.course.now c.write_ended.new.self c.args.bus.now c.write-acked.new.self c.requires
    (subst (λ f. IsSomeAnd (sending_in c.args.guard.now.host) (λ message. IsWrite c.args.guard.now.host.setup.addr message f))
    (sym c.as_slice.ensures.value) c.in-Write.ensures.1)
    c.write-acked.ensures.sent c.write-acked.ensures.gives
    (heard-so c.args.guard.now c.write_ended.new.host c.args.course.now (Finished c.write-acked.result) c.write_ended.new.self
    c.write_ended.result c.requires c.in-Write.ensures.0 c.write_ended.ensures.hears)

pub returns-in-Write-clause-left : goal.returns-in-Write-clause-left
returns-in-Write-clause-left g c =
    let told = heard-so c.args.guard.now c.write_ended.new.host c.args.course.now (Finished c.write-acked.result) c.write_ended.new.self
    c.write_ended.result c.requires c.in-Write.ensures.0 c.write_ended.ensures.hears in
    subst (λ (s : Summary). frames_left s < frames_left c.args.guard.now.host) (sym told.next)
    (spends c.args.guard.now.host (Wrote c.as_slice.result.now c.write-acked.result)
    (subst (λ s. IsSound s) c.host.ensures c.state.ensures.sound) c.in-Write.ensures.0)

pub returns-in-Write-clause-keeps : goal.returns-in-Write-clause-keeps
returns-in-Write-clause-keeps g c =
    told-keeps c.transcripts_are_followed.ensures c.courses_end.ensures c.args.guard.now c.write_ended.new.host c.args.course.now
    c.write_ended.new.self (Finished c.write-acked.result)
    (heard-so c.args.guard.now c.write_ended.new.host c.args.course.now (Finished c.write-acked.result) c.write_ended.new.self
    c.write_ended.result c.requires c.in-Write.ensures.0 c.write_ended.ensures.hears)

pub returns-in-Request-clause-carries : goal.returns-in-Request-clause-carries
returns-in-Request-clause-carries g c =
    let room : List ℕ = take c.in-Request.bytes (replicate 8 0) in
    let came : List ℕ = take c.read-count.result c.read-count.new.answer in
    let empty : room ≡ replicate c.in-Request.bytes 0 = take-replicate c.in-Request.bytes 8 0 c.in-Request.ensures.3 in
    call-carries c.laws_of_lives.ensures g.B.Bus.gives g.B.Bus.held g.B.Bus.restarts (Read c.as_slice-in-Request.result.now room came)
    c.args.guard.now c.read_ended.new.host c.args.course.now c.read_ended.new.self c.args.bus.now c.read-count.new.self c.requires (
      subst (λ f. IsSomeAnd (sending_in c.args.guard.now.host) (λ message. IsRequest c.args.guard.now.host.setup.addr message f))
          (sym c.as_slice-in-Request.ensures.value) c.in-Request.ensures.1,
      room-empty (sending_in c.args.guard.now.host) c.in-Request.bytes room empty c.in-Request.ensures.2,
    )
    c.read-count.ensures.asked c.read-count.ensures.gives
    (heard-so c.args.guard.now c.read_ended.new.host c.args.course.now (Got came) c.read_ended.new.self
    c.read_ended.result c.requires c.in-Request.ensures.0 c.read_ended.ensures.hears)

pub returns-in-Request-clause-left : goal.returns-in-Request-clause-left
returns-in-Request-clause-left g c =
    let came : List ℕ = take c.read-count.result c.read-count.new.answer in
    let told = heard-so c.args.guard.now c.read_ended.new.host c.args.course.now (Got came) c.read_ended.new.self
    c.read_ended.result c.requires c.in-Request.ensures.0 c.read_ended.ensures.hears in
    subst (λ (s : Summary). frames_left s < frames_left c.args.guard.now.host) (sym told.next)
    (spends c.args.guard.now.host (Read c.as_slice-in-Request.result.now came came)
    (subst (λ s. IsSound s) c.host.ensures c.state.ensures.sound) c.in-Request.ensures.0)

pub returns-in-Request-clause-keeps : goal.returns-in-Request-clause-keeps
returns-in-Request-clause-keeps g c =
    told-keeps c.transcripts_are_followed.ensures c.courses_end.ensures c.args.guard.now c.read_ended.new.host c.args.course.now
    c.read_ended.new.self (Got (take c.read-count.result c.read-count.new.answer))
    (heard-so c.args.guard.now c.read_ended.new.host c.args.course.now (Got (take c.read-count.result c.read-count.new.answer))
    c.read_ended.new.self c.read_ended.result c.requires c.in-Request.ensures.0 c.read_ended.ensures.hears)
