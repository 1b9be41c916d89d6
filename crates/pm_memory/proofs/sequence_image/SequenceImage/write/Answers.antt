use Rattle.std.proofs.Common.{refl}
use Rattle.pm_memory.proofs.sequence_image.SequenceImage.write.Goals as goal

pub returns : goal.returns
returns c = rw (
  c.flag-self.ensures,
  c.flag-self-2.ensures,
  c.write.ensures,
  c.write-2.ensures,
  c.phase_written-self.ensures,
  c.flag-self-3.ensures,
  c.flag-self-4.ensures,
  c.flag-self-5.ensures,
  c.flag-self-6.ensures,
  c.of-self.ensures,
  c.of-self-2.ensures,
) refl
