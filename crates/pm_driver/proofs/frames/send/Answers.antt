use Rattle.std.proofs.Common.{◌≡◌, ℕ, List, [], replicate, take, sym, subst}
use Rattle.std.proofs.lemmas.List.{take-replicate}
use Rattle.std.specs.Prelude.{IsSomeAnd}
use Rattle.pm_frame.specs.Layout.{IsRequest, IsWrite}
use Rattle.pm_host.specs.Summary.{sending_in}
use Rattle.pm_driver.specs.Acts.{Read, Wrote}
use Rattle.pm_driver.proofs.Lives.{leads-nothing}
use Rattle.pm_driver.proofs.Jobs.{busy-host, room-empty, told-leads, told-open}
use Rattle.pm_driver.proofs.frames.send.Goals as goal

pub returns-in-Idle-clause-leads : goal.returns-in-Idle-clause-leads
returns-in-Idle-clause-leads g c = leads-nothing g.B.Bus.gives g.B.Bus.held g.B.Bus.restarts
    (record { host = c.args.guard.now.host; bus = c.args.bus.now })

pub returns-in-Write-clause-leads : goal.returns-in-Write-clause-leads
returns-in-Write-clause-leads g c =
    told-leads g.B.Bus.gives g.B.Bus.held g.B.Bus.restarts c.frames_lead.ensures
    (Wrote c.as_slice.result.now c.write-acked.result) c.args.guard.now.host
    c.told-step.new.self.host c.told-step.result c.args.bus.now c.write-acked.new.self
    (subst (λ f. IsSomeAnd (sending_in c.args.guard.now.host) (λ message. IsWrite c.args.guard.now.host.setup.addr message f))
    (sym c.as_slice.ensures.value) c.in-Write.ensures.1)
    c.write-acked.ensures.sent c.write-acked.ensures.gives c.told-step.ensures.after c.told-step.ensures.step

pub returns-in-Write-clause-open : goal.returns-in-Write-clause-open
returns-in-Write-clause-open g c =
    told-open (Wrote c.as_slice.result.now c.write-acked.result) c.args.guard.now.host c.told-step.new.self.host c.told-step.result
    (busy-host (λ message. IsWrite c.args.guard.now.host.setup.addr message c.in-Write.packet.now.items) c.args.guard.now.host
    c.in-Write.ensures.1)
    c.told-step.ensures.after c.told-step.ensures.step

pub returns-in-Request-clause-leads : goal.returns-in-Request-clause-leads
returns-in-Request-clause-leads g c =
    let room : List ℕ = take c.in-Request.bytes (replicate 8 0) in
    let came : List ℕ = take c.read-count.result c.read-count.new.answer in
    let empty : room ≡ replicate c.in-Request.bytes 0 = take-replicate c.in-Request.bytes 8 0 c.in-Request.ensures.3 in
    told-leads g.B.Bus.gives g.B.Bus.held g.B.Bus.restarts c.frames_lead.ensures (Read c.as_slice-in-Request.result.now room came)
    c.args.guard.now.host
    c.told-step-in-Request.new.self.host c.told-step-in-Request.result c.args.bus.now c.read-count.new.self (
      subst (λ f. IsSomeAnd (sending_in c.args.guard.now.host) (λ message. IsRequest c.args.guard.now.host.setup.addr message f))
          (sym c.as_slice-in-Request.ensures.value) c.in-Request.ensures.1,
      room-empty (sending_in c.args.guard.now.host) c.in-Request.bytes room empty c.in-Request.ensures.2,
    )
    c.read-count.ensures.asked c.read-count.ensures.gives c.told-step-in-Request.ensures.after c.told-step-in-Request.ensures.step

pub returns-in-Request-clause-open : goal.returns-in-Request-clause-open
returns-in-Request-clause-open g c =
    told-open (Read c.as_slice-in-Request.result.now [] _) c.args.guard.now.host c.told-step-in-Request.new.self.host
    c.told-step-in-Request.result
    (busy-host (λ message. IsRequest c.args.guard.now.host.setup.addr message c.in-Request.frame.now.items) c.args.guard.now.host
    c.in-Request.ensures.1)
    c.told-step-in-Request.ensures.after c.told-step-in-Request.ensures.step
