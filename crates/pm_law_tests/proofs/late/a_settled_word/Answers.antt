use Rattle.std.proofs.Common.{subst, sym}
use Rattle.pm_table.specs.Cell.{IsCell}
use Rattle.pm_host.specs.Now.{host_now}
use Rattle.pm_host.specs.Summary.{Summary}
use Rattle.pm_law_tests.proofs.late.a_settled_word.Goals as goal

pub standing-requires : goal.standing-requires
unfolding host_now
standing-requires g c = subst (λ (s : Summary). IsCell s.setup.outputs c.args.cell) (sym c.requires.is) c.requires.there
