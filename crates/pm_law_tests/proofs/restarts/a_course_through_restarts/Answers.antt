use Rattle.std.proofs.Common.{◌≡◌, ℕ, List, subst}
use Rattle.std.specs.Prelude.{reverse}
use Rattle.pm_device.specs.declared.config.Config.{Config}
use Rattle.pm_world.specs.declared.event.Event.{Event}
use Rattle.pm_world.specs.Honest.{IsSpelled}
use Rattle.pm_world.specs.Lived.{IsLived}
use Rattle.pm_course_laws.specs.Restarts.{CoursesKeepBetween}
use Rattle.pm_law_tests.specs.Restarts.{LiesBetween}
use Rattle.pm_law_tests.proofs.Uses.{found-lived}
use Rattle.pm_law_tests.proofs.restarts.a_course_through_restarts.Goals as goal

lies : CoursesKeepBetween → (config : Config) (passes : ℕ) (events : List Event) → IsSpelled config → IsLived config passes events →
    LiesBetween config passes events
unfolding LiesBetween
lies law config passes events spelled lived part output wanted tries course rest later before is here idle course_is unstored =
    law.between config passes part output wanted tries course rest later before (record {
      spelled = spelled;
      lived = subst (IsLived config passes) is lived;
      here = here;
      idle = idle;
      is_course = course_is;
      unstored = unstored;
    })

pub returns : goal.returns
returns c = found-lived c.run_all.result _ _ (λ lived spelled. lies c.courses_keep_between.ensures c.args.c c.args.passes
    (reverse c.args.events.now) spelled lived) c.run_all.ensures.lived c.run_all.ensures.sound
