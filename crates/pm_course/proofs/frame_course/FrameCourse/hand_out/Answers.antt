use Rattle.pm_course.proofs.CourseFrames.{never-stops}
use Rattle.pm_course.proofs.frame_course.FrameCourse.hand_out.Goals as goal

pub returns-clause-hands : goal.returns-clause-hands
returns-clause-hands g c = λ sent is.
    never-stops (g.H.Hosted.guarded c.args.host.now) c.args.self.now sent (g.H.Hosted.guarded c.go_on.new.host) c.go_on.new.self
    (c.go_on.ensures.goes sent is)
