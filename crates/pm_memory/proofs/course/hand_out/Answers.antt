use Rattle.std.proofs.Common.{◌≡◌, ◌∙◌, ℕ, subst, sym, Some, refl}
use Rattle.pm_course.specs.declared.frame_course.FrameCourse.{FrameCourse}
use Rattle.pm_course.specs.Frames.{HandsOut}
use Rattle.pm_memory.specs.declared.course_image.CourseImage.{CourseImage}
use Rattle.pm_memory.specs.CourseImage.{course_held}
use Rattle.pm_memory.specs.Guard.{guard_of}
use Rattle.pm_memory.specs.Hosted.{guard_in}
use Rattle.pm_memory.specs.Course.{HandsOutIn, IsPut, hands_out, refused_frame, sent_number}
use Rattle.pm_memory.proofs.Calls.{numbered}
use Rattle.pm_memory.proofs.course.hand_out.Goals as goal

pub returns-in-Err : goal.returns-in-Err
returns-in-Err c = refused_frame c.in-Err.number c.clear.new.self (sym c.in-Err.ensures.fault) c.clear.ensures

pub returns : goal.returns
returns c =
    let host = c.args.host.now in
    let course = c.args.course.now in
    let new = c.hand_out-at.new.host in
    let g = guard_in host in
    let next = guard_in new in
    let found : guard_of new ≡ Some next = rw (c.hand_out-at.ensures.there.there) refl in
    let was = course_held course in
    let is = c.hand_out-at.new.self in
    let at = c.hand_out-at.result in
    let put : IsPut next at c.put.new.sending = c.put.ensures in
    let does : HandsOut g was put.sent next is =
    subst (λ (f : FrameCourse). HandsOut g f put.sent next is) c.held-asked.ensures (c.hand_out-at.ensures.hands put.sent put.of_stage) in
    let number : c.number_sent.result ≡ sent_number put.sent = c.number_sent.ensures ∙ numbered next at put.sent put.of_stage in
    subst (λ (n : ℕ). HandsOutIn host course n new c.write.new.self c.put.new.sending) (sym number)
    (subst (λ (image : CourseImage). HandsOutIn host course (sent_number put.sent) new image c.put.new.sending) (sym c.write.ensures)
    (hands_out g next was is put.sent new c.put.new.sending c.in-Ok.ensures.both does put.frame
    (record { guard = found; written = c.hand_out-at.ensures.written })))
