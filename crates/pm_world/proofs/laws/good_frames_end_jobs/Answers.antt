use Rattle.pm_world.proofs.GoodFrames.{frames-good}
use Rattle.pm_world.proofs.laws.good_frames_end_jobs.Goals as goal

pub returns : goal.returns
returns c = λ config passes events lived. frames-good c.lower_laws.ensures lived
