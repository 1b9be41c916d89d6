use Rattle.pm_sequence_laws.proofs.Steps.{stairs-are-followed}
use Rattle.pm_sequence_laws.proofs.laws.stairs_are_followed.Goals as goal

pub returns : goal.returns
returns c = stairs-are-followed (record {
  lives = c.events_are_lived.ensures;
  plans = c.plans_hold_in_lives.ensures;
  cells = c.cells_take_what_is_ordered.ensures;
  possible = c.possible_words_are_held.ensures;
})
