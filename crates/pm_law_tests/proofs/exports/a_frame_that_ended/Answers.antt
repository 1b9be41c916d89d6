use Rattle.std.proofs.Common.{Bool, subst}
use Rattle.pm_course_laws.specs.FramesBeside.{IsFrameCourseBeside}
use Rattle.pm_law_tests.proofs.exports.a_frame_that_ended.Goals as goal

pub returns : goal.returns
returns g c event alone told answered =
    let life = g.life in
    let goes = subst (λ (own : Bool). IsFrameCourseBeside life.held life.passes life.part life.begun life.before life.course own life.later)
    c.requires.1 c.requires.0.goes in
    c.exports_are_steps_beside.ensures.told life.held life.passes life.part life.begun life.course life.later life.before life.guard
    _ _ _ _ event _ _ goes c.requires.0.means alone told answered c.tell.ensures
