use Rattle.std.proofs.Common.{◌∙◌}
use Rattle.std.proofs.lemmas.List.{length-set, set-set}
use Rattle.pm_table.specs.declared.cell.Cell.TheVariants.{Protect}
use Rattle.pm_table.specs.Cell.{place_of}
use Rattle.pm_model.specs.Settings.{AreWords, word_at, with_word, with_outputs}
use Rattle.pm_model.proofs.MapLaws.{word_at-with_word, with_word-unchanged, word_at-words_of, AreWords-words_of, words_of-all}
use Rattle.pm_model.proofs.MapLaws.{outputs-from, protect-own}
use Rattle.pm_model.proofs.laws.settings_are_a_map.Goals as goal

pub returns : goal.returns
unfolding AreWords with_word with_outputs
returns c =
    let stand = c.cells_have_places.ensures in
    record {
      read = λ words cell other word full here there.
          word_at-with_word stand c.cells_are_told_apart.ensures words cell other word (full, here, there);
      kept = λ words cell word full. length-set words (place_of cell) word ∙ full;
      again = λ words cell word. set-set words (place_of cell) word word;
      unchanged = with_word-unchanged stand;
      made = λ word. (AreWords-words_of word, word_at-words_of stand word);
      one = words_of-all stand;
      whole = λ words others full. length-set others (place_of Protect) (word_at words Protect) ∙ full;
      outputs = outputs-from stand c.cells_are_told_apart.ensures;
      protect = protect-own stand c.cells_are_told_apart.ensures;
    }
