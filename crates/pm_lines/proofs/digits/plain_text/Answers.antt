use Rattle.std.proofs.Common.{lit≤}
use Rattle.pm_lines.proofs.ReadDigits.{decimal_none, natural_none, no_text}
use Rattle.pm_lines.proofs.digits.plain_text.Goals as goal

pub returns-clause-decimal : goal.returns-clause-decimal
returns-clause-decimal c =
    rw c.ok.ensures.value (no_text _ _ c.from_utf8.result c.from_utf8.ensures.cases (decimal_none c.args.bytes.now))

pub returns-clause-natural : goal.returns-clause-natural
returns-clause-natural c =
    rw c.ok.ensures.value (no_text _ _ c.from_utf8.result c.from_utf8.ensures.cases (natural_none 10 (lit≤ tt) c.args.bytes.now))
