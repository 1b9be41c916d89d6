-- A host beside a part that takes late, as a caller of its laws has them.
use Rattle.std.specs.Prelude.{◌≡◌, ℕ, List}
use Rattle.pm_table.specs.declared.cell.Cell.{Cell}
use Rattle.pm_table.specs.Cell.{IsCell}
use Rattle.pm_model.specs.Settings.{Words}
use Rattle.pm_host.specs.Now.{host_now}
use Rattle.pm_host.specs.Summary.{Summary}
use Rattle.pm_host.specs.Transcript.{Setup}
use Rattle.pm_part_laws.specs.Late.{Both, Event, IsLate, both_after}

-- how many frames a write may wait, what the host is made with, what the part held and had stored as it began, and what happened since
pub record LateLife : Type 0 where
  pub frames : ℕ
  pub setup : Setup
  pub held : Words
  pub stored : Words
  pub events : List Event

abbrev pub both_in_late_life : LateLife → Both
both_in_late_life life = both_after life.setup life.held life.stored life.events

-- such a life led to this host, which knows this cell
pub record Lived (life : LateLife) (host : Summary) (cell : Cell) : Type 0 where
  pub late : IsLate life.frames life.setup life.held life.stored life.events
  pub is : host ≡ host_now life.setup (both_in_late_life life).entries
  pub there : IsCell life.setup.outputs cell
