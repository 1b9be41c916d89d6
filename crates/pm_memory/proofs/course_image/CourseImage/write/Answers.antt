use Rattle.std.proofs.Common.{◌≡◌, ◌∙◌, Bool, ap, refl}
use Rattle.pm_rail.specs.declared.wanted.Wanted.{Wanted}
use Rattle.pm_memory.specs.Flag.{flag}
use Rattle.pm_memory.specs.Wanted.{wanted_image}
use Rattle.pm_memory.proofs.course_image.CourseImage.write.Goals as goal

pub returns : goal.returns
returns c = rw (
  c.job_numbers-asked.ensures.kind,
  c.job_numbers-asked.ensures.code,
  c.job_numbers-asked.ensures.word,
  c.of-end.ensures,
  c.unwrap_or-self.ensures,
  c.of-self.ensures ∙ ap (λ (w : Wanted). wanted_image w) c.words_of.ensures,
  c.of-self-2.ensures,
  c.flag-self.ensures ∙ ap (λ (b : Bool). flag b) c.is_some.ensures,
  c.flag-self-2.ensures,
  c.flag-self-3.ensures ∙ ap (λ (b : Bool). flag b) c.is_some-2.ensures,
  c.flag-self-4.ensures,
  c.flag-self-5.ensures,
  c.of-self-3.ensures,
  c.of-self-4.ensures,
  c.of-self-5.ensures,
  c.number_of-self.ensures,
) refl
