-- What a step of a list does, as plain numbers in a caller's memory, and what they mean. This project's own choice.
use Rattle.std.specs.Prelude.{ℕ, Bool, ◌&&◌, not, ◌%◌, ◌==◌, nat_lt, if◌then◌else◌, replicate, pos}
use Rattle.std.specs.Prelude.{Option, Some, None, is_some, unwrap_or, Result, Ok, Err}
use Rattle.pm_table.specs.Rules.{rule}
use Rattle.pm_host.specs.declared.fault.HostFault.TheVariants.{UnknownOutput}
use Rattle.pm_host.specs.FaultWords.{host_fault_number}
use Rattle.pm_rail.specs.declared.wanted.Wanted.{Wanted}
use Rattle.pm_rail.specs.Registers.{nothing}
use Rattle.pm_course.specs.declared.wish.Wish.{Wish}
use Rattle.pm_course.specs.declared.wish.Wish.TheVariants.{Stay, Word, Microvolts}
use Rattle.pm_course.specs.declared.wish.Wishes.{Wishes}
use Rattle.pm_stairs.specs.declared.sequence.Placed.{Placed}
use Rattle.pm_stairs.specs.declared.step.Act.{Act}
use Rattle.pm_stairs.specs.declared.step.Act.TheVariants as act
use Rattle.pm_stairs.specs.declared.step.WordAct.{WordAct}
use Rattle.pm_stairs.specs.declared.step.WordAct.TheVariants as words
use Rattle.pm_stairs.specs.declared.step.WordStep.{WordStep}
use Rattle.pm_memory.specs.Flag.{flag}
use Rattle.pm_memory.specs.declared.placed.PlacedImage.{PlacedImage}
use Rattle.pm_memory.specs.declared.placed.StepWishImage.{StepWishImage}
use Rattle.pm_memory.specs.Numbers.{no_step}

-- what is asked for of a register: 0 it stays, 1 a word, 2 microvolts
abbrev pub is_wish : StepWishImage → Bool
is_wish i = nat_lt i.kind 3

abbrev pub wish_asked : StepWishImage → Wish
wish_asked i = if i.kind == 1 then Word i.word else (if i.kind == 2 then Microvolts i.microvolts else Stay)

abbrev pub wishes_asked : PlacedImage → Wishes
wishes_asked i = record {
  command = wish_asked i.command;
  max = wish_asked i.max;
  margin_high = wish_asked i.margin_high;
  margin_low = wish_asked i.margin_low;
  min = wish_asked i.min;
}

abbrev pub are_wishes : PlacedImage → Bool
are_wishes i = is_wish i.command && (is_wish i.max && (is_wish i.margin_high && (is_wish i.margin_low && is_wish i.min)))

-- what a step does: 1 its registers get words or voltages, 2 OPERATION gets a byte, 3 nothing is ordered and its output is surveyed,
-- 4 nothing is ordered or read
abbrev pub act_asked : PlacedImage → Option Act
act_asked i = if i.kind == 1 then rule (are_wishes i) (act.Sets (wishes_asked i))
    else (if i.kind == 2 then Some (act.Turns i.byte)
    else (if i.kind == 3 then Some act.Surveys else (if i.kind == 4 then Some act.Rests else None)))

abbrev pub placed_act : PlacedImage → Option Act → Result Placed ℕ
placed_act i None = Err no_step
placed_act i (Some a) = Ok (record { host = i.host; step = record { output = i.output; act = a } })

-- the step, or what is wrong with it: H4, EFh
abbrev pub placed_in : PlacedImage → Result Placed ℕ
placed_in i = if not (nat_lt i.output 8) then Err (host_fault_number UnknownOutput)
    else (if not (nat_lt i.host 8) then Err no_step else placed_act i (act_asked i))

-- a step in words, as it is written
abbrev pub word_image : Option ℕ → StepWishImage
word_image word = record { kind = flag (is_some word); word = unwrap_or word 0; microvolts = pos 0 }

abbrev pub step_numbers : ℕ → ℕ → ℕ → ℕ → Wanted → PlacedImage
step_numbers host output kind byte wanted = record {
  host = host;
  output = output;
  kind = kind;
  byte = byte;
  unused = replicate 4 0;
  command = word_image wanted.command;
  max = word_image wanted.max;
  margin_high = word_image wanted.margin_high;
  margin_low = word_image wanted.margin_low;
  min = word_image wanted.min;
}

abbrev pub act_image : ℕ → ℕ → WordAct → PlacedImage
act_image host output (words.Sets wanted) = step_numbers host output 1 0 wanted
act_image host output (words.Turns byte) = step_numbers host output 2 (byte % 256) nothing
act_image host output words.Nothing = step_numbers host output 4 0 nothing

abbrev pub step_image : ℕ → WordStep → PlacedImage
step_image host step = act_image host step.output step.act
