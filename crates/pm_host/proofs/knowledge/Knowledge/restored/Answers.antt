-- That a restart was seen stays, whatever else is forgotten.
use Rattle.pm_host.proofs.Memory.{seen-known}
use Rattle.pm_host.proofs.knowledge.Knowledge.restored.Goals as goal

pub returns-clause-written : goal.returns-clause-written
returns-clause-written c = λ is.
    seen-known c.set.new.self c.args.self.now
    (c.set.ensures.written c.clear.ensures.written (c.possible.ensures.written is) (c.standing-said.ensures.written is)) is
