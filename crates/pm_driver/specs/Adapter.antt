-- What an adapter may do to the converter at its other end: this project's own premise. Lists are newest first.
use Rattle.std.specs.Prelude.{◌≡◌, ◌+◌, ℕ, List, take}
use Rattle.pm_device.specs.Held.{Held}
use Rattle.pm_world.specs.declared.event.Event.{Event}
use Rattle.pm_driver.specs.Bus.{AreAll, IsAsked, IsSent, held_after, is_beside_bus, restarts_in}
use Rattle.pm_driver.specs.declared.adapter.WriteEnd.{WriteEnd}
use Rattle.pm_driver.specs.declared.adapter.WriteEnd.TheVariants as write
use Rattle.pm_driver.specs.declared.adapter.ReadEnd.{ReadEnd}
use Rattle.pm_driver.specs.declared.adapter.ReadEnd.TheVariants as read

-- The converter heard nothing: it may have restarted, and what it measures may have changed. A count of its restarts
-- rose by just those that happened.
pub record IsUnheard (old : Held) (was : ℕ) (new : Held) (is : ℕ) : Type 0 where
  pub events : List Event
  pub beside : AreAll is_beside_bus events
  pub after : (frame : List ℕ) → held_after frame old events ≡ new
  pub count : restarts_in events + was ≡ is

-- what a try to send a packet does to the converter
abbrev pub IsSendTried : WriteEnd → List ℕ → Held → ℕ → Held → ℕ → Type 0
IsSendTried write.Unheard frame old was new is = IsUnheard old was new is
IsSendTried write.Failed frame old was new is = IsSent frame old was new is
IsSendTried write.Acknowledged frame old was new is = IsSent frame old was new is

-- how many bytes came, and which
abbrev pub bytes_in : ReadEnd → ℕ
bytes_in read.Unheard = 0
bytes_in read.Failed = 0
bytes_in (read.Came count) = count

abbrev pub came_in : ReadEnd → List ℕ → List ℕ
came_in end answer = take (bytes_in end) answer

-- what a try to ask does to it, where these bytes came
abbrev pub IsAskTried : ReadEnd → List ℕ → ℕ → Held → ℕ → List ℕ → Held → ℕ → Type 0
IsAskTried read.Unheard request needed old was came new is = IsUnheard old was new is
IsAskTried read.Failed request needed old was came new is = IsAsked request needed old was came new is
IsAskTried (read.Came count) request needed old was came new is = IsAsked request needed old was came new is

-- one try of an adapter, and what came of it
pub data Try : Type 0 where
  -- this packet was sent
  Sends : (frame : List ℕ) (end : WriteEnd) → Try
  -- this request was sent with this room for its answer, and these bytes came
  Asks : (request room : List ℕ) (end : ReadEnd) (came : List ℕ) → Try
