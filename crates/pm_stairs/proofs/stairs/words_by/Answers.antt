use Rattle.std.proofs.Common.{ℕ, Err, ap, sym, subst, ◌∙◌}
use Rattle.std.specs.Prelude.{nat_lt}
use Rattle.std.proofs.lemmas.Bool.{le-ltb}
use Rattle.pm_host.specs.Summary.{Summary}
use Rattle.pm_rail.specs.Survey.{wanted_in}
use Rattle.pm_course.specs.declared.course_end.Refusal.{Refusal}
use Rattle.pm_course.specs.FrameCourse.{format_now}
use Rattle.pm_course.specs.Wishes.{AreFormed}
use Rattle.pm_stairs.specs.Stairs.{HasWords, absent, formed}
use Rattle.pm_stairs.proofs.stairs.words_by.Goals as goal

pub returns-then-course-state : goal.returns-then-course-state
returns-then-course-state g c = formed c.words_now.result
    (subst (λ (s : Summary). AreFormed (format_now s c.args.course.now.course) (wanted_in c.args.course.now.course.survey.plan)
    c.args.course.now.voltages c.words_now.result) c.state-then-course-state.ensures.state c.words_now.ensures)

pub returns-else-course-state : goal.returns-else-course-state
returns-else-course-state g c =
    subst (λ (r : Refusal). HasWords (g.S.Sight.guarded c.args.guard.now) c.args.course.now (Err r)) (sym c.no_output.ensures)
    (absent (ap (λ (most : ℕ). nat_lt c.args.course.now.course.survey.output most)
    (sym (ap (λ (s : Summary). s.setup.outputs) c.state.ensures.state))
    ∙ le-ltb c.args.course.now.course.survey.output c.state.result.now.outputs c.if-course-state.false))
