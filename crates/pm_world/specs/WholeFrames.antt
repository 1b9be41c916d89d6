-- Frames that come whole are undisturbed: what the promises on undisturbed frames ask of events, where these are the
-- plainest ones. This project's own choice. Lists are newest first.
use Rattle.std.specs.Prelude.{◌≡◌, ℕ, Bool, true, List, ◌∷◌}
use Rattle.pm_table.specs.declared.cell.Cell.{Cell}
use Rattle.pm_table.specs.declared.cell.Cell.TheVariants.{Protect}
use Rattle.pm_table.specs.Cell.{cell_code}
use Rattle.pm_table.specs.Protection.{is_allowed}
use Rattle.pm_frame.specs.declared.message.Message.{Message}
use Rattle.pm_frame.specs.Layout.{is_read_message}
use Rattle.pm_model.specs.Settings.{word_at}
use Rattle.pm_device.specs.declared.config.Config.{Config}
use Rattle.pm_host.specs.Messages.{cell_read}
use Rattle.pm_world.specs.declared.event.Arrival.TheVariants.{Whole}
use Rattle.pm_world.specs.declared.event.Back.TheVariants as back
use Rattle.pm_world.specs.declared.event.Event.{Event}
use Rattle.pm_world.specs.declared.event.Event.TheVariants.{Deliver, Exchange, Finish, Order}
use Rattle.pm_world.specs.GoodBus.{IsRead, IsWritten}
use Rattle.pm_world.specs.Life.{now}
use Rattle.pm_world.specs.Way.{WasSent, WasUndisturbed}

-- A write that is delivered whole once, and then over, is written (`written`). An exchange of `Whole` and `Whole` reads
-- any request (`read`), and so each cell (`cell`). An order of a word that WRITE_PROTECT allows is sent by the one
-- (`sent`), and undisturbed by both (`order`).
pub record WholeFramesAreUndisturbed : Type 0 where
  pub written : (frame : List ℕ) (acked : Bool) (before : List Event) →
      IsWritten frame acked before (Finish acked ∷ Deliver Whole ∷ before)
  pub read : (config : Config) (passes : ℕ) (request : Message) (before : List Event) →
      is_read_message request ≡ true →
      IsRead config passes request before (Exchange Whole back.Whole ∷ before)
  pub cell : (config : Config) (passes : ℕ) (cell : Cell) (before : List Event) →
      IsRead config passes (cell_read cell) before (Exchange Whole back.Whole ∷ before)
  pub sent : (config : Config) (passes : ℕ) (before : List Event) (cell : Cell) (word : ℕ) →
      is_allowed (word_at (now config passes before).device.words Protect) (cell_code cell) ≡ true →
      WasSent config passes cell word true (Deliver Whole ∷ Order cell word ∷ before)
  pub order : (config : Config) (passes : ℕ) (before : List Event) (cell : Cell) (word : ℕ) (acked : Bool) →
      is_allowed (word_at (now config passes before).device.words Protect) (cell_code cell) ≡ true →
      WasUndisturbed config passes cell word
      (Exchange Whole back.Whole ∷ Finish acked ∷ Deliver Whole ∷ Order cell word ∷ before)
