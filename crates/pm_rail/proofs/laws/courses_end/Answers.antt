use Rattle.pm_rail.proofs.Free.{free, reached-surveyed, reads-only, takes, told-left}
use Rattle.pm_rail.proofs.laws.courses_end.Goals as goal

pub returns : goal.returns
returns c = record {
  takes = takes;
  told = told-left;
  free = λ g course job words there is. free c.plans_are_accepted.ensures g course job words there is;
  reads = reads-only;
  surveyed = reached-surveyed;
}
