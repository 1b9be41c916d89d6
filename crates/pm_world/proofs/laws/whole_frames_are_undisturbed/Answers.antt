use Rattle.pm_world.proofs.Events.{whole-cell, whole-order, whole-read, whole-sent, whole-written}
use Rattle.pm_world.proofs.laws.whole_frames_are_undisturbed.Goals as goal

pub returns : goal.returns
returns c = record { written = whole-written; read = whole-read; cell = whole-cell; sent = whole-sent; order = whole-order }
