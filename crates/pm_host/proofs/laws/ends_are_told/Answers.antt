use Rattle.pm_host.proofs.Jobs.{entry-tells, now-job}
use Rattle.pm_host.proofs.laws.ends_are_told.Goals as goal

pub returns : goal.returns
returns c = record {
  job = now-job;
  tells = entry-tells c.cells_have_places.ensures c.transcripts_are_followed.ensures;
}
