use Rattle.std.proofs.Common.{◌≡◌, ℕ, Option, Some, ap, subst, sym}
use Rattle.pm_frame.specs.declared.message.Message.{Message}
use Rattle.pm_host.specs.declared.stage.Stage.{Stage}
use Rattle.pm_host.specs.Summary.{Summary, stage_message}
use Rattle.pm_memory.specs.Hosted.{guard_in}
use Rattle.pm_memory.specs.Sending.{IsSending}
use Rattle.pm_memory.specs.Course.{IsPut}
use Rattle.pm_memory.proofs.Calls.{sends}
use Rattle.pm_memory.proofs.course.put.Goals as goal

pub returns-in-Some : goal.returns-in-Some
returns-in-Some c =
    let g = guard_in c.args.host.now in
    let stage = c.in-Some.stage in
    let i = c.put.new.self in
    let addr : c.args.host.now.host.state.address ≡ g.host.setup.addr = ap (λ (s : Summary). s.setup.addr) c.requires.there.whole in
    let sent : IsSending g.host.setup.addr (stage_message stage) i =
    subst (λ (m : Message). IsSending g.host.setup.addr m i) c.message.ensures.message
    (subst (λ (a : ℕ). IsSending a c.message.result i) addr c.put.ensures) in
    let s = sends g.host.setup.addr (stage_message stage) i sent in
    let put : IsPut g (Some stage) i = record { sent = Some s.sending; of_stage = s.is_of; frame = s.kept } in
    subst (λ (at : Option Stage). IsPut g at i) (sym c.in-Some.is) put
