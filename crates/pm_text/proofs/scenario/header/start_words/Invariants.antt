use Rattle.std.proofs.Common.{◌≡◌, drop}
use Rattle.pm_text.specs.ScenarioText.{start_words_field}
use Rattle.pm_text.proofs.scenario.header.start_words.Given as goal

-- what is read of all registers is what is read of those that are left, with the words so far
abbrev pub invariant-loop-register : goal.invariant-loop-register
invariant-loop-register l =
    start_words_field l.registers l.fn.words l.fn.fields ≡ start_words_field (drop l.register-index l.registers) l.words l.fields
