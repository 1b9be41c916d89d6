use Rattle.std.proofs.Common.{◌≡◌, ◌≤◌, ◌-◌, ℕ, List, false}
use Rattle.pm_log.specs.TakenLogs.{Taken}
use Rattle.pm_log.specs.Texts.{most_log_bytes}
use Rattle.pm_log.proofs.checking.take_all.Given as goal

-- the bytes that the reader gave were taken
abbrev pub invariant-reads : goal.invariant-reads
invariant-reads g l = record {
  taken : (front : List ℕ) × Taken l.fn.allowed.parts (g.R.Read.remaining l.fn.reader.inner) (g.R.Read.remaining l.reader.inner) front l.log;
  sound : l.reader.failed ≡ false;
  room : l.log.taken ≤ most_log_bytes;
}

abbrev pub decreases-reads : goal.decreases-reads
decreases-reads g l = most_log_bytes - l.log.taken
