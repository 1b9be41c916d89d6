use Rattle.std.proofs.Common.{◌≡◌, Some, ap, ◌∙◌, refl, rules}
use Rattle.pm_host.specs.Image.{held, host_of}
use Rattle.pm_host.specs.Summary.{host_next, step_of}
use Rattle.pm_host.specs.Told.{entry_told}
use Rattle.pm_memory.specs.Host.{fault_in, host_step}
use Rattle.pm_memory.proofs.Calls.{awaited, tells}
use Rattle.pm_memory.proofs.told.tell.Goals as goal

pub returns-in-Some : goal.returns-in-Some
returns-in-Some c =
    let stage = c.in-Some.stage in
    let before = c.args.host.now in
    let entry = entry_told c.args.told in
    let is_open : c.in-Ok.stage ≡ Some stage = search rules in
    let became : host_of c.write_stage.new.self ≡ Some (host_next (held (Some stage) before.host.state) entry) = search rules in
    let s = held (Some stage) before.host.state in
    let address = ap (λ setup. setup.addr) c.told-progress.ensures.kept in
    let answered : c.step_after.result ≡ host_step (fault_in s entry) (step_of s entry) = search rules in
    tells before (record before { host = c.write_stage.new.self }) (held (Some stage) before.host.state) entry c.step_after.result
    (c.in-Ok.ensures.found ∙ ap (λ at. Some (held at before.host.state)) is_open)
    (awaited stage before.host.state c.args.told (search rules)) became answered refl refl
    (λ is. record {
      host = c.write_stage.ensures.written (c.told-progress.ensures.written is.host.state);
      registers = is.registers;
      unused = is.unused;
      limits = is.limits;
    })
