use Rattle.std.proofs.Common.{◌≡◌, ◌++◌, string_bytes, take}
use Rattle.pm_text.specs.Report.{spaced_words}
use Rattle.pm_text.proofs.report.settings.push_words.Given as goal

-- the words so far were put
abbrev pub invariant-loop-word : goal.invariant-loop-word
invariant-loop-word l = record {
  written :
      string_bytes l.text
      ≡ string_bytes l.fn.text ++ spaced_words l.cell (take l.word-index l.words);
}
