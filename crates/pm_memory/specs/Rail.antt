-- What is said of what an output commands, by the definitions of pm_rail and pm_limits. This project's own choice.
use Rattle.std.specs.Prelude.{◌≡◌, ◌≢◌, ℕ, pos, replicate}
use Rattle.pm_table.specs.declared.cell.Cell.TheVariants.{Out}
use Rattle.pm_table.specs.declared.reg.Reg.TheVariants.{Operation}
use Rattle.pm_table.specs.Cell.{register_code}
use Rattle.pm_host.specs.Summary.{format_at, possible_at}
use Rattle.pm_limits.specs.Band.{band_at, within_of}
use Rattle.pm_limits.specs.Guard.{Guarded, limits_at}
use Rattle.pm_rail.specs.declared.power.Power.{Power}
use Rattle.pm_rail.specs.declared.power.Power.TheVariants.{On, Off, NotKnown}
use Rattle.pm_rail.specs.declared.power.Selected.{Selected}
use Rattle.pm_rail.specs.declared.power.Selected.TheVariants as selected
use Rattle.pm_rail.specs.Rail.{power_of, selected_of}
use Rattle.pm_memory.specs.declared.rail.RailImage.{RailImage}
use Rattle.pm_memory.specs.Limits.{ends_in, within_word, IsEnds}
use Rattle.pm_memory.specs.Numbers.{accepted}

-- whether it is on
abbrev pub power_word : Power → ℕ
power_word On = 1
power_word Off = 2
power_word NotKnown = 0

-- which register has its voltage: its command code, and FFh of AVSBus
abbrev pub selected_word : Selected → ℕ
selected_word (selected.Register register) = register_code register
selected_word selected.AvsBus = 0xFF
selected_word selected.NotKnown = 0

-- every number that is written
pub record IsRail (g : Guarded) (output : ℕ) (rail : RailImage) : Type 0 where
  pub power : rail.power ≡ power_word (power_of (possible_at g.host (Out output Operation)))
  pub selected : rail.selected ≡ selected_word (selected_of (possible_at g.host (Out output Operation)))
  pub within : rail.within ≡ within_word (within_of (limits_at g output) (band_at g.registers g.host output))
  pub band : rail.band ≡ ends_in (format_at g.host output) (band_at g.registers g.host output)
  pub ends : rail.band ≡ accepted → IsEnds (band_at g.registers g.host output) rail.ends
  pub none : rail.band ≢ accepted → rail.ends ≡ record { least = pos 0; greatest = pos 0 }
  pub unused : rail.unused ≡ replicate 4 0
