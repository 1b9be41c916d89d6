use Rattle.std.proofs.Common.{◌≡◌, ◌++◌, string_bytes}
use Rattle.std.specs.Prelude.{flat_map}
use Rattle.pm_decode.specs.JsonCounts.{count_json}
use Rattle.pm_decode.proofs.json_counts.push_json_counts.Given as goal

-- what is written and what is left are the whole
abbrev pub invariant-loop-code : goal.invariant-loop-code
invariant-loop-code l = string_bytes l.text ++ flat_map count_json l.code-iterator
    ≡ string_bytes l.fn.text ++ flat_map count_json l.heard.counts.codes
