use Rattle.std.proofs.Common.{◌≡◌, drop, map}
use Rattle.pm_log.specs.Lacks.{lacks_nothing}
use Rattle.pm_tool.specs.Lacking.{lacks_texts}
use Rattle.pm_tool.proofs.commandline.lacks.read_texts.Given as goal

-- the texts that are left say the same of what parts lack so far
abbrev pub invariant-loop-text : goal.invariant-loop-text
invariant-loop-text l = record {
  same :
      lacks_texts l.lacks.parts (drop l.text-index (map (λ text. text.now) l.texts))
      ≡ lacks_texts lacks_nothing (map (λ text. text.now) l.texts);
}
