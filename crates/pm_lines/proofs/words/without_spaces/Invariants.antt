use Rattle.std.proofs.Common.{◌≡◌, length}
use Rattle.pm_lines.specs.Lines.{words_of}
use Rattle.pm_lines.proofs.words.without_spaces.Given as goal

-- no word was passed
abbrev pub invariant-spaces : goal.invariant-spaces
invariant-spaces l = record { words : words_of l.rest ≡ words_of l.fn.text }

abbrev pub decreases-spaces : goal.decreases-spaces
decreases-spaces l = length l.rest
