use Rattle.std.proofs.Common.{◌≡◌, length}
use denote.Shadow.{shadow}
use denote.Text.{Utf8}
use Rattle.pm_tool.specs.Lacking.{lacks_names}
use Rattle.pm_tool.specs.Question.{items}
use Rattle.pm_tool.proofs.commandline.lacks.add_names.Given as goal

-- what is left of the names says the same of what parts lack so far
abbrev pub invariant-names : goal.invariant-names
invariant-names l = record {
  utf8 : shadow (Utf8 l.left);
  same : lacks_names l.lacks.parts l.addr (items l.left) ≡ lacks_names l.fn.lacks.parts l.addr (items l.fn.names);
}

abbrev pub decreases-names : goal.decreases-names
decreases-names l = length (items l.left)
