use Rattle.std.proofs.Common.{arith, sym}
use Rattle.std.proofs.lemmas.List.{take_all}
use Rattle.pm_decode.proofs.comment.front.Goals as goal

pub returns-then-text-lt63 : goal.returns-then-text-lt63
returns-then-text-lt63 c = sym (take_all 63 c.args.text.now (omega arith))
