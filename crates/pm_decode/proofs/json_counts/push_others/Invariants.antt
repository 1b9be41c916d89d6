use Rattle.std.proofs.Common.{◌≡◌, ◌++◌, string_bytes}
use Rattle.pm_decode.specs.JsonCounts.{other_jsons}
use Rattle.pm_decode.proofs.json_counts.push_others.Given as goal

-- the objects of the codes so far were appended
abbrev pub invariant-loop-code : goal.invariant-loop-code
invariant-loop-code l = string_bytes l.text ≡ string_bytes l.initial.text ++ other_jsons l.others l.code
