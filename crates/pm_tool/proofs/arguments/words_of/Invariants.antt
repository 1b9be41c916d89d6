use Rattle.std.proofs.Common.{◌≡◌, map, string_bytes, take}
use Rattle.pm_tool.proofs.arguments.words_of.Given as goal

-- the words so far are the texts so far
abbrev pub invariant-words : goal.invariant-words
invariant-words l = map (λ word. word.now) l.words.items ≡ map string_bytes (take l.text-index l.given.items)
