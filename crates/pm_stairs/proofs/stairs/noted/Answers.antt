use Rattle.std.proofs.Common.{ap, ◌∙◌}
use Rattle.pm_host.specs.Summary.{Summary}
use Rattle.pm_stairs.specs.Steps.{noted}
use Rattle.pm_stairs.proofs.stairs.noted.Goals as goal

pub returns : goal.returns
returns g c = c.noted.ensures ∙ ap (λ (s : Summary). noted s c.args.step.now) c.state.ensures.state
