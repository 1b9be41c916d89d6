use Rattle.std.proofs.Common.{inr, refl}
use Rattle.pm_lines.specs.Lemmas.Paired.{all_paired, not_paired, some_word}
use Rattle.pm_lines.proofs.bytes.push_bytes.Goals as goal

pub returns-in-Ok-empty-clause-all : goal.returns-in-Ok-empty-clause-all
returns-in-Ok-empty-clause-all c =
    all_paired c.args.line.text.now _ _ _ c.in-Ok-empty.ensures.all c.in-Ok-empty.ensures.rest c.in-Ok-empty.len_below

pub returns-in-Ok-clause-fault : goal.returns-in-Ok-clause-fault
returns-in-Ok-clause-fault c =
    inr (refl, not_paired c.args.line.text.now _ c.in-Ok.ensures.rest c.in-Ok.len_at_least)

pub returns-in-Err-clause-memory : goal.returns-in-Err-clause-memory
returns-in-Err-clause-memory c = λ _. some_word c.args.line.text.now c.in-Err.ensures.some
