use Rattle.std.proofs.Common.{◌∙◌, refl, rules}
use Rattle.pm_lines.proofs.LinesAndWords.{words-passed}
use Rattle.pm_lines.proofs.words.without_spaces.Goals as goal

pub spaces-preserved : goal.spaces-preserved
spaces-preserved c = record {
  words = words-passed c.spaces.rest.now _ c.in-32.len_at_least (search rules) refl ∙ c.spaces.invariant.words;
}
