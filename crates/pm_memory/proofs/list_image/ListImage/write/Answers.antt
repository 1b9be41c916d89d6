use Rattle.std.proofs.Common.{refl}
use Rattle.pm_memory.proofs.list_image.ListImage.write.Goals as goal

pub returns : goal.returns
returns c = rw (c.flag-self.ensures, c.flag-self-2.ensures, c.write.ensures, c.write_under.ensures, c.write_course.ensures) refl
