use Rattle.pm_law_tests.proofs.exports.a_frame_of_a_course.Goals as goal

pub returns : goal.returns
returns g c =
    let life = g.life in
    c.exports_are_steps_beside.ensures.frames life.held life.passes life.part life.begun life.course life.own life.later life.before life.guard
    _ _ _ _ _ _ c.requires.goes c.requires.means c.hand_out.ensures
