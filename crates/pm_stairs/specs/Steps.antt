-- Steps of outputs, and those that undo them: this project's own choice.
use Rattle.std.specs.Prelude.{ℕ, Option, Some, None, unwrap_or}
use Rattle.pm_table.specs.declared.cell.Cell.TheVariants.{Out}
use Rattle.pm_table.specs.declared.reg.Reg.{Reg}
use Rattle.pm_table.specs.declared.reg.Reg.TheVariants.{Operation, VoutCommand, VoutMax, MarginHigh, MarginLow, VoutMin}
use Rattle.pm_host.specs.Summary.{Summary, possible_at}
use Rattle.pm_rail.specs.declared.wanted.Wanted.{Wanted}
use Rattle.pm_rail.specs.Known.{known_word, sole}
use Rattle.pm_course.specs.declared.course_end.CourseEnd.TheVariants.{Reached}
use Rattle.pm_course.specs.declared.frame_course.FrameCourse.{FrameCourse}
use Rattle.pm_course.specs.declared.wish.Wish.{Wish}
use Rattle.pm_course.specs.declared.wish.Wish.TheVariants.{Stay, Word}
use Rattle.pm_course.specs.declared.wish.Wishes.{Wishes}
use Rattle.pm_course.specs.FrameCourse.{to_byte, to_survey, to_wishes}
use Rattle.pm_stairs.specs.declared.step.Act.{Act}
use Rattle.pm_stairs.specs.declared.step.Act.TheVariants as act
use Rattle.pm_stairs.specs.declared.step.Step.{Step}
use Rattle.pm_stairs.specs.declared.step.WordAct.{WordAct}
use Rattle.pm_stairs.specs.declared.step.WordAct.TheVariants.{Sets, Turns, Nothing}
use Rattle.pm_stairs.specs.declared.step.WordStep.{WordStep}

-- words as wishes
abbrev pub wish_of : Option ℕ → Wish
wish_of None = Stay
wish_of (Some word) = Word word

abbrev pub wishes_of : Wanted → Wishes
wishes_of wanted = record {
  command = wish_of wanted.command;
  max = wish_of wanted.max;
  margin_high = wish_of wanted.margin_high;
  margin_low = wish_of wanted.margin_low;
  min = wish_of wanted.min;
}

-- the survey's course, ended before anything is read
abbrev pub to_rest : ℕ → ℕ → FrameCourse
to_rest output tries = record (to_survey output tries) { end = Some Reached }

-- the course that a step begins with
abbrev pub act_course : ℕ → Act → ℕ → FrameCourse
act_course output (act.Sets wishes) tries = to_wishes output wishes tries
act_course output (act.Words words) tries = to_wishes output (wishes_of words) tries
act_course output (act.Turns byte) tries = to_byte output byte tries
act_course output act.Surveys tries = to_survey output tries
act_course output act.Rests tries = to_rest output tries

abbrev pub step_course : Step → ℕ → FrameCourse
step_course step tries = act_course step.output step.act tries

-- what a step does, where its wishes have these words
abbrev pub act_with : Act → Wanted → WordAct
act_with (act.Sets wishes) words = Sets words
act_with (act.Words wanted) words = Sets wanted
act_with (act.Turns byte) words = Turns byte
act_with act.Surveys words = Nothing
act_with act.Rests words = Nothing

abbrev pub step_with : Step → Wanted → WordStep
step_with step words = record { output = step.output; act = act_with step.act words }

-- The word that a register is to have again, where a step changes it: the one that is known as the step begins.
abbrev pub back_word : Summary → ℕ → Reg → Option ℕ → Option ℕ
back_word s output register None = None
back_word s output register (Some word) = known_word (Out output register) (possible_at s (Out output register))

abbrev pub words_back : Summary → ℕ → Wanted → Wanted
words_back s output wanted = record {
  command = back_word s output VoutCommand wanted.command;
  max = back_word s output VoutMax wanted.max;
  margin_high = back_word s output MarginHigh wanted.margin_high;
  margin_low = back_word s output MarginLow wanted.margin_low;
  min = back_word s output VoutMin wanted.min;
}

-- the only byte that OPERATION may hold; 0 where there is none
abbrev pub byte_back : Summary → ℕ → ℕ
byte_back s output = unwrap_or (sole (possible_at s (Out output Operation))) 0

-- the step that undoes a step which begins now
abbrev pub act_back : Summary → ℕ → WordAct → WordAct
act_back s output (Sets words) = Sets (words_back s output words)
act_back s output (Turns byte) = Turns (byte_back s output)
act_back s output Nothing = Nothing

abbrev pub noted : Summary → WordStep → WordStep
noted s step = record { output = step.output; act = act_back s step.output step.act }

-- a step in words, as one to carry out
abbrev pub act_of_words : WordAct → Act
act_of_words (Sets words) = act.Words words
act_of_words (Turns byte) = act.Turns byte
act_of_words Nothing = act.Rests

abbrev pub step_of_words : WordStep → Step
step_of_words step = record { output = step.output; act = act_of_words step.act }
