-- The bytes are kept.
use Rattle.std.proofs.Common.{rules}
use Rattle.pm_host.proofs.Memory.{direct-written}
use Rattle.pm_host.proofs.format_image.FormatImage.direct.Goals as goal

pub returns-clause-written : goal.returns-clause-written
returns-clause-written c = search (rules, direct-written)
