use Rattle.std.proofs.Common.{subst, sym}
use Rattle.pm_course.specs.declared.course_end.CourseNext.{CourseNext}
use Rattle.pm_course.specs.declared.course_end.CourseNext.TheVariants.{Job, Ended}
use Rattle.pm_course.specs.declared.frame_course.FrameCourse.{FrameCourse}
use Rattle.pm_course.specs.Frames.{SaysBy}
use Rattle.pm_memory.specs.CourseImage.{course_held}
use Rattle.pm_memory.specs.Hosted.{guard_in}
use Rattle.pm_memory.specs.declared.course.CourseJobImage.{CourseJobImage}
use Rattle.pm_memory.specs.Course.{WouldBegin, refused_next, said}
use Rattle.pm_memory.proofs.course.would_begin.Goals as goal

pub returns-in-Err : goal.returns-in-Err
returns-in-Err c = refused_next c.in-Err.number (sym c.in-Err.ensures.fault)

pub returns-in-Job : goal.returns-in-Job
returns-in-Job c =
    let g = guard_in c.args.host.now in
    let was = course_held c.args.course.now in
    let says : SaysBy g was (Job c.in-Job.job) c.next_at.new.self =
    subst (λ (n : CourseNext). SaysBy g was n c.next_at.new.self) c.in-Job.is
    (subst (λ (f : FrameCourse). SaysBy g f c.next_at.result c.next_at.new.self) c.held-asked.ensures c.next_at.ensures) in
    subst (λ (i : CourseJobImage). WouldBegin c.args.host.now c.args.course.now c.args.next.now 0 i) (sym c.of.ensures)
    (said g was c.next_at.new.self (Job c.in-Job.job) c.in-Ok.ensures.both says)

pub returns-in-Ended : goal.returns-in-Ended
returns-in-Ended c =
    let g = guard_in c.args.host.now in
    let was = course_held c.args.course.now in
    let says : SaysBy g was (Ended c.in-Ended.field-0) c.next_at.new.self =
    subst (λ (n : CourseNext). SaysBy g was n c.next_at.new.self) c.in-Ended.is
    (subst (λ (f : FrameCourse). SaysBy g f c.next_at.result c.next_at.new.self) c.held-asked.ensures c.next_at.ensures) in
    subst (λ (i : CourseJobImage). WouldBegin c.args.host.now c.args.course.now c.args.next.now 149 i) (sym c.of-in-Ended.ensures)
    (said g was c.next_at.new.self (Ended c.in-Ended.field-0) c.in-Ok.ensures.both says)
