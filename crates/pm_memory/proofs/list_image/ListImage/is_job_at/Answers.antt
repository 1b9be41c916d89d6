use Rattle.std.proofs.Common.{◌∙◌, ap, sym}
use Rattle.pm_course.specs.declared.frame_course.FrameCourse.{FrameCourse}
use Rattle.pm_course.specs.Heard.{is_job_of}
use Rattle.std.proofs.lemmas.Bool.{ne_eqb}
use Rattle.pm_memory.proofs.Kept.{job-at}
use Rattle.pm_memory.proofs.list_image.ListImage.is_job_at.Goals as goal

pub returns-then-has_step : goal.returns-then-has_step
returns-then-has_step c =
    c.is_job_of-then-has_step.ensures
    ∙ ap (λ (x : FrameCourse). is_job_of x.course.survey.asked c.args.stage) c.held-then-has_step.ensures
    ∙ job-at c.args.self.now c.args.stage (ne_eqb c.args.self.now.under.is_reading 1 c.if-self-eq1.false) (sym c.has_step.ensures ∙ c.if-has_step.true)
