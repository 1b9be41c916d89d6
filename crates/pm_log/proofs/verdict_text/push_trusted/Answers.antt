use Rattle.std.proofs.Common.{◌∙◌, ◌++◌, ap, string_bytes}
use Rattle.pm_log.specs.Lacks.{part_at}
use Rattle.pm_log.specs.Verdicts.{trusted_at}
use Rattle.pm_log.proofs.Follow.{trusted_more, trusted_none}
use Rattle.pm_log.proofs.verdict_text.push_trusted.Goals as goal

pub loop-addr-init : goal.loop-addr-init
loop-addr-init c = record { written = trusted_none c.args.without.now.parts (string_bytes c.args.text.now) }

pub loop-addr-preserved : goal.loop-addr-preserved
loop-addr-preserved c = record {
  written =
      c.in_ok-push_trusted_at.ensures ∙ ap (λ p. string_bytes c.loop-addr.text ++ trusted_at c.loop-addr.addr p) c.part.ensures
      ∙ ap (λ l. l ++ trusted_at c.loop-addr.addr (part_at c.args.without.now.parts c.loop-addr.addr)) c.loop-addr.invariant.written
      ∙ trusted_more c.args.without.now.parts c.loop-addr.addr (string_bytes c.args.text.now);
}
