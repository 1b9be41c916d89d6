use Rattle.std.proofs.Common.{rules}
use Rattle.pm_trace.proofs.ValueLemmas.{kept_first}
use Rattle.pm_trace.proofs.answers.Answers.is_first_written.Goals as goal

pub returns-in-Some : goal.returns-in-Some
returns-in-Some c = λ bytes. kept_first c.args.self.now.written c.args.key c.in-Some.first.now c.in-Some.last.now c.args.written
    (search rules) (search rules) (search rules) bytes
