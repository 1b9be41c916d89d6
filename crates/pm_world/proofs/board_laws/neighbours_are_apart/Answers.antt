use Rattle.std.proofs.Common.{ℕ, ◌<◌, List, ap}
use Rattle.pm_device.specs.Effect.{kept_in}
use Rattle.pm_world.specs.State.{State}
use Rattle.pm_world.proofs.Board.{IsApart, Below, answer-passes, board-apart, frame-passes}
use Rattle.pm_world.specs.Neighbours.{Board, Happening, IsLivedOn, on_board, own}
use Rattle.pm_world.proofs.board_laws.neighbours_are_apart.Goals as goal

pub returns : goal.returns
returns c =
    let laws : Below = record {
      table = c.registers_are_in_the_table.ensures;
      silent = c.frames_for_others_are_silent.ensures;
      requests = c.requests_latch_at_most.ensures;
      betrayal = c.betrayal_is_refused.ensures;
      followed = c.lives_are_followed.ensures;
      lived = c.events_are_lived.ensures;
    } in
    let apart : (board : Board) (events : List Happening) (pair : ℕ) → IsLivedOn board events → pair < board.count
    → IsApart (board.config pair) (board.passes pair) (on_board board pair events) (own pair events)
    = λ board events pair lived there. board-apart laws board pair events (lived.sound pair there) (lived.made pair there)
    (lived.legal pair there) in
    record {
      lived = λ board events pair lived there. (apart board events pair lived there).lived;
      alone = λ board events pair lived there. (apart board events pair lived there).alone;
      kept = λ board events pair lived there. ap (λ (s : State). kept_in s.device) (apart board events pair lived there).alone;
      host = λ board events pair lived there. ap (λ (s : State). s.host) (apart board events pair lived there).alone;
      end = λ board events pair lived there. ap (λ (s : State). s.end) (apart board events pair lived there).alone;
      frames = frame-passes c.frames_for_others_are_silent.ensures;
      answers = answer-passes;
    }
