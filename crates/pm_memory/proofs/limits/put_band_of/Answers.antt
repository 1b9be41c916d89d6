use Rattle.std.proofs.Common.{◌∙◌, Option, None, ap, subst}
use Rattle.pm_host.specs.Image.{held}
use Rattle.pm_host.specs.Summary.{format_at}
use Rattle.pm_limits.specs.declared.band.Band.{Band}
use Rattle.pm_memory.specs.Limits.{ends_in, IsEnds}
use Rattle.pm_memory.proofs.limits.put_band_of.Goals as goal

pub returns-clause-number : goal.returns-clause-number
returns-clause-number c = c.put_known.ensures.number
    ∙ ap (ends_in (format_at (held None c.args.host.now.host.state) c.args.output)) c.known_band-known.ensures

pub returns-clause-said : goal.returns-clause-said
returns-clause-said c = λ zero.
    subst (λ (k : Option Band). IsEnds k c.put_known.new.ends) c.known_band-known.ensures (c.put_known.ensures.said zero)
