use Rattle.pm_world.proofs.Parts.{starts}
use Rattle.pm_world.proofs.part_laws.starts_are_parts.Goals as goal

pub returns : goal.returns
returns c = starts (record {
  apart = c.cells_are_told_apart.ensures;
  places = c.cells_have_places.ensures;
  map = c.settings_are_a_map.ensures;
  lived = c.events_are_lived.ensures;
  followed = c.lives_are_followed.ensures;
  moves = c.settings_move_by_the_open_job.ensures;
})
