use Rattle.pm_device.proofs.Replies.{other-silent, silent-other, other-unchanged, neighbour-other, read_bit-other, past-without_others}
use Rattle.pm_device.proofs.laws.frames_for_others_are_silent.Goals as goal

pub returns : goal.returns
returns c = record {
  silent = other-silent;
  only = silent-other;
  unchanged = other-unchanged;
  neighbour = neighbour-other;
  read_bit = read_bit-other;
  past = past-without_others c.pasts_are_followed.ensures;
}
