-- The steps of a sequence as plain numbers in a caller's memory, and what they mean. This project's own choice.
use Rattle.std.specs.Prelude.{ℕ, Bool, not, ◌&&◌, ◌||◌, ◌==◌, nat_lt, if◌then◌else◌, Result, Ok, Err}
use Rattle.pm_delivery.specs.Heard.{nothing_asked}
use Rattle.pm_sequence.specs.declared.step.Looks.{Looks}
use Rattle.pm_sequence.specs.declared.step.Step.{Step}
use Rattle.pm_stairs.specs.declared.sequence.Placed.{Placed}
use Rattle.pm_stairs.specs.declared.step.WordStep.{WordStep}
use Rattle.pm_memory.specs.declared.sequence_step.SequenceStepImage.{SequenceStepImage}
use Rattle.pm_memory.specs.Numbers.{no_step}
use Rattle.pm_memory.specs.Placed.{placed_in, step_image}

-- how its rail is looked at: 0 not, 1 it is, 2 it has to deliver; what the part lacks: 1 STATUS_WORD, 2 READ_VOUT, 3 both
abbrev pub are_looks : SequenceStepImage → Bool
are_looks i = nat_lt i.looks 3 && nat_lt i.lacks 4

abbrev pub looks_asked : SequenceStepImage → Looks
looks_asked i = record {
  is_wanted = not (i.looks == 0);
  must_deliver = i.looks == 2;
  tells_power_good = not (i.tells_power_good == 0);
  lacks_status_word = i.lacks == 1 || i.lacks == 3;
  lacks_read_vout = i.lacks == 2 || i.lacks == 3;
  fault_limits = i.fault_limits;
  within = i.within;
  rounds = i.rounds;
}

abbrev pub step_of_image : SequenceStepImage → Result Placed ℕ → Result Step ℕ
step_of_image i (Err number) = Err number
step_of_image i (Ok placed) = if are_looks i then Ok (record { placed = placed; wait = i.wait; looks = looks_asked i; before = i.before }) else Err no_step

-- the step, or what is wrong with it: H4, EFh
abbrev pub step_in : SequenceStepImage → Result Step ℕ
step_in i = step_of_image i (placed_in i.placed)

-- the step that undoes another one, as it is written: nothing is looked at
abbrev pub back_image : ℕ → WordStep → SequenceStepImage
back_image host step = record {
  placed = step_image host step;
  looks = 0;
  fault_limits = 0;
  lacks = 0;
  tells_power_good = 0;
  within = 0;
  rounds = 0;
  wait = 0;
  before = nothing_asked;
}
