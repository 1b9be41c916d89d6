use Rattle.std.proofs.Common.{◌≡◌, ◌++◌, string_bytes}
use Rattle.pm_log.specs.Verdicts.{trusted_below}
use Rattle.pm_log.proofs.verdict_text.push_trusted.Given as goal

-- what is said of the parts at the addresses so far was put
abbrev pub invariant-loop-addr : goal.invariant-loop-addr
invariant-loop-addr l = record {
  written : string_bytes l.text ≡ string_bytes l.fn.text ++ trusted_below l.without.parts l.addr;
}
