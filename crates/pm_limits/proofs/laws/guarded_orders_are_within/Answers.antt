use Rattle.pm_limits.specs.Lemmas.Guarded.{guarded-voltage, guarded-known, guarded-on, guarded-off, guarded-free, guarded-missing, guarded-unread}
use Rattle.pm_limits.proofs.laws.guarded_orders_are_within.Goals as goal

pub returns : goal.returns
returns c = record {
  voltage = guarded-voltage;
  known = guarded-known;
  on = guarded-on;
  off = guarded-off;
  free = guarded-free;
  missing = guarded-missing;
  unread = guarded-unread;
}
