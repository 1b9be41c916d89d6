use Rattle.std.proofs.Common.{ap, arith, refl}
use Rattle.std.specs.Option.{option_map}
use Rattle.pm_table.specs.Coefficients.{coefficients_of}
use Rattle.pm_host.specs.Answers.{word_in}
use Rattle.pm_host.specs.Messages.{coefficients_read}
use Rattle.pm_world.proofs.Board.{counted-none, given-refused, mode-none, protection-word, register-none}
use Rattle.pm_world.proofs.board_laws.ones_are_no_answer.Goals as goal

pub returns : goal.returns
returns c = record {
  word = λ addr opening count output register.
      ap (λ o. option_map word_in o) (register-none addr opening count output register);
  mode = λ addr opening count output. ap (λ o. option_map word_in o) (mode-none addr opening count output);
  coefficients = λ addr opening count.
      ap (λ o. option_map coefficients_of o) (counted-none addr opening count coefficients_read refl (omega arith));
  protection = protection-word;
  refused = given-refused;
}
