use Rattle.std.proofs.Common.{refl}
use Rattle.pm_host.specs.Image.{held, host_of}
use Rattle.pm_host.proofs.Memory.{sound-tested}
use Rattle.pm_host.proofs.image.HostImage.write_stage.Goals as goal

pub returns-clause-host : goal.returns-clause-host
unfolding host_of
returns-clause-host c = rw (c.requires.current, c.of-self.ensures.held, sound-tested (held c.args.stage c.args.self.now.state) c.requires.sound) refl
