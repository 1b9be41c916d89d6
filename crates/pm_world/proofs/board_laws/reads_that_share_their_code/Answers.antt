use Rattle.pm_world.proofs.Board.{coefficients-alone, mode-alone, outputs-share, protect-shorter, protect-shortest}
use Rattle.pm_world.proofs.board_laws.reads_that_share_their_code.Goals as goal

pub returns : goal.returns
returns c = record {
  outputs = outputs-share;
  mode = mode-alone;
  coefficients = coefficients-alone;
  protect = protect-shorter;
  protect_coefficients = protect-shortest;
}
