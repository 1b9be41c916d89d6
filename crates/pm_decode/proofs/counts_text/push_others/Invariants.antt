use Rattle.std.proofs.Common.{◌≡◌, ◌++◌, string_bytes}
use Rattle.pm_decode.specs.CaptureText.{other_lines}
use Rattle.pm_decode.proofs.counts_text.push_others.Given as goal

-- the lines of the codes so far were appended
abbrev pub invariant-loop-code : goal.invariant-loop-code
invariant-loop-code l = string_bytes l.text ≡ string_bytes l.initial.text ++ other_lines l.others l.code
