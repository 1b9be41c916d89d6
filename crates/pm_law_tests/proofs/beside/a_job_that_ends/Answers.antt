use Rattle.std.proofs.Common.{sym, ◌∙◌, ap, subst}
use Rattle.std.specs.Prelude.{◌≤◌, ◌+◌, length}
use Rattle.pm_host.specs.Frames.{frames_left}
use Rattle.pm_host.specs.Summary.{Summary}
use Rattle.pm_world.specs.GoodTurns.{Took}
use Rattle.pm_part_laws.specs.Happenings.{beside}
use Rattle.pm_part_laws.specs.OpenJobs.{turn_at}
use Rattle.pm_law_tests.specs.Beside.{both_in}
use Rattle.pm_law_tests.proofs.beside.a_job_that_ends.Goals as goal

pub returns-clause-turn : goal.returns-clause-turn
returns-clause-turn g c before stage acked opened comes =
    subst (λ (h : Summary). Took h.stage (both_in g.life).end (turn_at g.life.held g.life.passes before acked stage)) (sym c.requires.host_is)
    (c.open_jobs_end_beside.ensures.turn g.life.held g.life.passes before g.life.happened stage acked c.requires.lived opened comes)

pub returns-clause-few : goal.returns-clause-few
returns-clause-few g c before frames come =
    subst (λ (h : Summary). length frames + frames_left h ≤ frames_left (beside g.life.held g.life.passes before).host) (sym c.requires.host_is)
    (c.open_jobs_end_beside.ensures.few g.life.held g.life.passes frames before g.life.happened c.requires.lived come)

pub returns-clause-ends : goal.returns-clause-ends
returns-clause-ends g c before frames stage opened come over =
    c.open_jobs_end_beside.ensures.ends g.life.held g.life.passes frames before g.life.happened stage c.requires.lived opened come
    (ap (λ (h : Summary). h.stage) (sym c.requires.host_is) ∙ over)
