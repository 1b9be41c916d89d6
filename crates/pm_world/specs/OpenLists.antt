-- What decides, of a list of events, whether WRITE_PROTECT was left open: this project's own choice.
use Rattle.std.specs.Prelude.{ℕ, Bool, true, false, not, ◌&&◌, ◌||◌, ◌==◌, List, [], ◌∷◌}
use Rattle.std.specs.List.{list_any}
use Rattle.pm_table.specs.declared.cell.Cell.TheVariants.{Out, Protect}
use Rattle.pm_host.specs.declared.knowledge.Possible.{Possible}
use Rattle.pm_host.specs.declared.knowledge.Possible.TheVariants.{Any, Words}
use Rattle.pm_host.specs.Marks.{Mark}
use Rattle.pm_host.specs.Summary.{possible_at}
use Rattle.pm_world.specs.declared.event.Event.{Event}
use Rattle.pm_world.specs.declared.openness.Openness.{Openness}
use Rattle.pm_world.specs.State.{State}
use Rattle.pm_world.specs.declared.event.Event.TheVariants.{Order, Restore}
use Rattle.pm_world.specs.Possible.{restarts_host}
use Rattle.pm_world.specs.Uncertainty.{leaves_open}

-- the marks leave WRITE_PROTECT open, as a test
abbrev pub are_open : List Mark → Bool
are_open [] = true
are_open (mark ∷ before) = leaves_open mark && are_open before

-- the word isn't 00h; one that isn't is listed
abbrev pub is_other : ℕ → Bool
is_other word = not (word == 0x00)

abbrev pub lists_other : Possible → Bool
lists_other Any = false
lists_other (Words words) = list_any is_other words.items

-- the event asks for another word of WRITE_PROTECT, or for a restore
abbrev pub closes : Event → Bool
closes (Order Protect word) = is_other word
closes (Order (Out output register) word) = false
closes Restore = true
closes _ = false

-- whether it is left open after one more event, by what is possible for WRITE_PROTECT then
abbrev pub stays_open : Bool → Event → Possible → Bool
stays_open before event possible = restarts_host event || before && not (closes event || lists_other possible)

-- what a run found so far and one more event make of whether WRITE_PROTECT is left open, by the world after the event
abbrev pub follows_open : Openness → Event → State → Openness
follows_open found event s = record { left = stays_open found.left event (possible_at s.host Protect) }
