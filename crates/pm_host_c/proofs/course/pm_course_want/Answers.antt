use Rattle.std.proofs.Common.{◌≡◌, ◌∙◌, ℤ, ap, of_z, rules, sym, to_z, w64}
use Rattle.pm_course.specs.declared.frame_course.FrameCourse.{FrameCourse}
use Rattle.pm_course.specs.FrameCourse.{wanting}
use Rattle.pm_memory.specs.CourseImage.{course_image}
use Rattle.pm_host_c.proofs.course.pm_course_want.Goals as goal

pub returns-clause-wanted : goal.returns-clause-wanted
returns-clause-wanted c =
    let kept = sym c.course.ensures ∙ c.in-Some.is in
    let register = sym c.voltage_of.ensures ∙ c.in-Some-voltage_of.is in
    let read : to_z w64 (of_z w64 c.args.microvolts) ≡ c.args.microvolts = search rules in
    let wants = c.want.ensures ∙ ap (λ (x : ℤ). wanting c.in-Some.to c.in-Some-voltage_of.register x) read in
    λ zero. rw (kept, register) (c.of.ensures ∙ ap (λ (f : FrameCourse). course_image f) wants)
