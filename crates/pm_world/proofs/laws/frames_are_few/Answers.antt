use Rattle.std.proofs.Common.{subst}
use Rattle.pm_world.specs.Life.{life}
use Rattle.pm_world.specs.Setup.{setup_of}
use Rattle.pm_world.proofs.Events.{IsLived, life-told, lived-before}
use Rattle.pm_world.proofs.laws.frames_are_few.Goals as goal

pub returns : goal.returns
returns c = λ config passes events lived. record {
  few = λ later before is.
      let before_it = lived-before config passes later before (subst (IsLived config passes) is lived) in
      c.lower_laws.ensures.jobs_are_bounded (setup_of config passes) (life config passes before).entries lived.made
      (life-told config passes before before_it.legal);
}
