use Rattle.std.proofs.Common.{◌≡◌, ◌++◌, string_bytes, take}
use Rattle.pm_log.specs.Verdicts.{words_text}
use Rattle.pm_log.proofs.verdict_text.push_cell_words.Given as goal

-- the words so far were put
abbrev pub invariant-loop-word : goal.invariant-loop-word
invariant-loop-word l = record {
  written :
      string_bytes l.text
      ≡ string_bytes l.fn.text ++ words_text l.cell (take l.word-index l.words);
}
