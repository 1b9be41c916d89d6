use Rattle.pm_world.proofs.Events.{taken-free, free-word, lived-before, lived-by}
use Rattle.pm_world.proofs.laws.events_are_lived.Goals as goal
use Rattle.pm_world.specs.Life.{now}

pub returns : goal.returns
returns c = record {
  none = λ config passes sound made. record { sound = sound; made = made; legal = tt };
  more = λ config passes events event lived free. record {
    sound = lived.sound;
    made = lived.made;
    legal = (record { free = free; word = free-word (now config passes events) event free }, lived.legal);
  };
  step = λ config passes events event lived taken. record {
    sound = lived.sound;
    made = lived.made;
    legal = (record { free = taken-free (now config passes events) event taken; word = taken.word }, lived.legal);
  };
  earlier = λ config passes later before lived. lived-before config passes later before lived;
  taken = lived-by;
}
