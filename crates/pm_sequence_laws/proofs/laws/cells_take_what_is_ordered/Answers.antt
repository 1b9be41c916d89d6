use Rattle.pm_sequence_laws.proofs.Steps.{cells-take}
use Rattle.pm_sequence_laws.proofs.laws.cells_take_what_is_ordered.Goals as goal

pub returns : goal.returns
returns c = cells-take (record {
  ends = c.ends_are_told.ensures;
  lives = c.events_are_lived.ensures;
  orders = c.lives_are_orders.ensures;
  moves = c.settings_move_by_the_open_job.ensures;
})
