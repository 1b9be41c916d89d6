use Rattle.std.proofs.Common.{Ok, Err, ap, sym, subst, ◌∙◌}
use Rattle.std.specs.Prelude.{Result}
use Rattle.pm_course.specs.declared.course_end.Refusal.{Refusal}
use Rattle.pm_course.specs.declared.course_end.CourseEnd.TheVariants.{Refused}
use Rattle.pm_course.specs.declared.frame_course.FrameCourse.{FrameCourse}
use Rattle.pm_rail.specs.declared.wanted.Wanted.{Wanted}
use Rattle.pm_stairs.specs.declared.said.StepEnd.TheVariants.{Course}
use Rattle.pm_stairs.specs.declared.stairs.Move.TheVariants.{Stops}
use Rattle.pm_stairs.specs.declared.stairs.Stairs.{Stairs}
use Rattle.pm_stairs.specs.declared.step.WordStep.{WordStep}
use Rattle.pm_stairs.specs.Stairs.{AsksAhead, GoesAhead, HasWords, asks, coming_course, stairs_reading_for, unformed}
use Rattle.pm_stairs.specs.Steps.{step_with}
use Rattle.pm_stairs.proofs.stairs.Stairs.ahead.Goals as goal

pub returns-in-Err : goal.returns-in-Err
returns-in-Err g c =
    let none : HasWords (g.S.Sight.guarded c.args.guard.now) (coming_course c.args.self.now c.args.step.now c.args.tries)
    (Err c.in-Err.refusal) =
    subst (λ (course : FrameCourse). HasWords (g.S.Sight.guarded c.args.guard.now) course (Err c.in-Err.refusal))
    c.coming_course-course.ensures
    (subst (λ (r : Result Wanted Refusal). HasWords (g.S.Sight.guarded c.args.guard.now) c.coming_course-course.result r) c.in-Err.is
    c.words_by.ensures) in
    subst (λ (s : Stairs). GoesAhead (g.S.Sight.guarded c.args.guard.now) c.args.tries c.args.step.now c.args.self.now
    (Stops (Course (Refused c.in-Err.refusal))) s)
    (sym (c.reads_for.ensures ∙ ap (λ (course : FrameCourse). stairs_reading_for c.args.self.now course) c.coming_course-course.ensures))
    (unformed c.in-Err.refusal none)

pub returns-in-Ok : goal.returns-in-Ok
returns-in-Ok g c =
    let some : HasWords (g.S.Sight.guarded c.args.guard.now) (coming_course c.args.self.now c.args.step.now c.args.tries)
    (Ok c.in-Ok.words) =
    subst (λ (course : FrameCourse). HasWords (g.S.Sight.guarded c.args.guard.now) course (Ok c.in-Ok.words)) c.coming_course-course.ensures
    (subst (λ (r : Result Wanted Refusal). HasWords (g.S.Sight.guarded c.args.guard.now) c.coming_course-course.result r) c.in-Ok.is
    c.words_by.ensures) in
    let says : AsksAhead (g.S.Sight.guarded c.args.guard.now) (step_with c.args.step.now c.in-Ok.words)
    (coming_course c.args.self.now c.args.step.now c.args.tries) c.args.self.now c.asks.result c.asks.new.self =
    subst (λ (course : FrameCourse). AsksAhead (g.S.Sight.guarded c.args.guard.now)
    (step_with c.args.step.now c.in-Ok.words) course c.args.self.now c.asks.result
    c.asks.new.self) c.coming_course-course.ensures
    (subst (λ (step : WordStep). AsksAhead (g.S.Sight.guarded c.args.guard.now) step c.coming_course-course.result c.args.self.now
    c.asks.result c.asks.new.self)
    c.with_words.ensures c.asks.ensures) in
    asks c.in-Ok.words c.asks.result c.asks.new.self some says
