use Rattle.pm_world.proofs.Parts.{leaves}
use Rattle.pm_world.proofs.part_laws.lives_leave_parts.Goals as goal

pub returns : goal.returns
returns c = leaves (record {
  all = record {
    apart = c.cells_are_told_apart.ensures;
    places = c.cells_have_places.ensures;
    map = c.settings_are_a_map.ensures;
    lived = c.events_are_lived.ensures;
    followed = c.lives_are_followed.ensures;
    moves = c.settings_move_by_the_open_job.ensures;
  };
  orders = c.lives_are_orders.ensures;
  stay = c.orders_stay_in_their_cells.ensures;
  origin = c.words_have_an_origin.ensures;
  pasts = c.pasts_are_followed.ensures;
})
