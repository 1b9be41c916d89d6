use Rattle.std.proofs.Common.{ap, refl, sym}
use Rattle.pm_host.specs.Image.{held}
use Rattle.pm_host.specs.Summary.{Summary}
use Rattle.pm_memory.proofs.Kept.{found-in, means, there-of}
use Rattle.pm_memory.proofs.guard_image.GuardImage.open_stage.Goals as goal

pub returns-in-Ok-clause-there : goal.returns-in-Ok-clause-there
returns-in-Ok-clause-there c =
    there-of c.args.self.now (held c.in-Ok.stage c.args.self.now.host.state) c.in-Ok.ensures.found c.in-Ok.ensures.sound

pub returns-in-Ok-clause-stage : goal.returns-in-Ok-clause-stage
returns-in-Ok-clause-stage c =
    ap (λ (s : Summary). s.stage) (sym (means c.args.self.now (held c.in-Ok.stage c.args.self.now.host.state) c.in-Ok.ensures.found))

pub returns-in-Ok-clause-guard : goal.returns-in-Ok-clause-guard
returns-in-Ok-clause-guard c = found-in c.args.self.now (held c.in-Ok.stage c.args.self.now.host.state) c.in-Ok.ensures.found

pub returns-in-Err-clause-none : goal.returns-in-Err-clause-none
returns-in-Err-clause-none c = rw (c.in-Err.ensures.other) refl
