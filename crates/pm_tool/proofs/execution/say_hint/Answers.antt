use Rattle.std.proofs.Common.{subst, sym}
use Rattle.pm_tool.specs.Refusals.{Says}
use Rattle.pm_tool.specs.Execution.{hint_words, refusal_line}
use Rattle.pm_tool.proofs.execution.say_hint.Goals as goal

pub returns-in-NoTimes : goal.returns-in-NoTimes
returns-in-NoTimes g c =
    subst (λ hint. Says g.E.Write.contents c.args.errors.now c.say.new.errors (refusal_line (hint_words hint)))
    (sym c.in-NoTimes.is) c.say.ensures

pub returns-in-NoGoodPacket : goal.returns-in-NoGoodPacket
returns-in-NoGoodPacket g c =
    subst (λ hint. Says g.E.Write.contents c.args.errors.now c.say-in-NoGoodPacket.new.errors (refusal_line (hint_words hint)))
    (sym c.in-NoGoodPacket.is) c.say-in-NoGoodPacket.ensures

pub returns-in-NoPec : goal.returns-in-NoPec
returns-in-NoPec g c =
    subst (λ hint. Says g.E.Write.contents c.args.errors.now c.say-in-NoPec.new.errors (refusal_line (hint_words hint)))
    (sym c.in-NoPec.is) c.say-in-NoPec.ensures

pub returns-in-Beyond : goal.returns-in-Beyond
returns-in-Beyond g c =
    subst (λ hint. Says g.E.Write.contents c.args.errors.now c.say_line.new.errors (refusal_line (hint_words hint)))
    (sym c.in-Beyond.is) c.say_line.ensures

pub returns-in-Timed : goal.returns-in-Timed
returns-in-Timed g c =
    subst (λ hint. Says g.E.Write.contents c.args.errors.now c.say_line-in-Timed.new.errors (refusal_line (hint_words hint)))
    (sym c.in-Timed.is) c.say_line-in-Timed.ensures

pub returns-in-Paging : goal.returns-in-Paging
returns-in-Paging g c =
    subst (λ hint. Says g.E.Write.contents c.args.errors.now c.say_line-in-Paging.new.errors (refusal_line (hint_words hint)))
    (sym c.in-Paging.is) c.say_line-in-Paging.ensures
