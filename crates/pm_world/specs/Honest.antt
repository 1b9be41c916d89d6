-- What undisturbed frames come to in a world: this project's own choice of how an order, a check, a
-- learn and a clear go.
use Rattle.std.specs.Prelude.{◌≡◌, ◌≢◌, ◌<◌, ◌≤◌, ◌*◌, ◌^◌, ℕ, ℤ, Bool, true, false, ◌&&◌, not, bytes_eq, List, ◌∷◌, ◌++◌, map, Some}
use Rattle.std.specs.List.{list_any}
use Rattle.pm_num.specs.AnyFormat.{Shape, shape_rank}
use Rattle.pm_num.specs.NearestWord.{nearest_word}
use Rattle.pm_num.specs.Ratio.{micros}
use Rattle.pm_table.specs.declared.cell.Cell.{Cell}
use Rattle.pm_table.specs.declared.cell.Cell.TheVariants.{Protect}
use Rattle.pm_table.specs.Cell.{cell_code, output_of}
use Rattle.pm_table.specs.Coefficients.{coefficients_of, coefficient_bytes}
use Rattle.pm_table.specs.Protection.{is_allowed}
use Rattle.pm_model.specs.Settings.{word_at}
use Rattle.pm_device.specs.declared.config.Config.{Config}
use Rattle.pm_device.specs.declared.converter.Ending.TheVariants.{Stop}
use Rattle.pm_device.specs.Held.{mode_for, shape_for, value_for}
use Rattle.pm_host.specs.declared.knowledge.Standing.TheVariants.{Confirmed}
use Rattle.pm_host.specs.declared.job.JobEnd.TheVariants.{Done, Learned}
use Rattle.pm_host.specs.Answers.{good_word}
use Rattle.pm_host.specs.Frames.{frames_of}
use Rattle.pm_host.specs.Messages.{cell_write}
use Rattle.pm_host.specs.Summary.{format_at, standing_at}
use Rattle.pm_host.specs.Transcript.{Accepted, Finished, Got, format_of_output}
use Rattle.pm_host.specs.Transcript as host
use Rattle.pm_world.specs.declared.event.Event.{Event}
use Rattle.pm_world.specs.declared.event.Event.TheVariants.{OrderMicro, Deliver, Finish, Exchange}
use Rattle.pm_world.specs.declared.event.Arrival.{Arrival}
use Rattle.pm_world.specs.declared.event.Arrival.TheVariants.{Whole}
use Rattle.pm_world.specs.declared.event.Back.TheVariants as back
use Rattle.pm_world.specs.Ended.{begins_other}
use Rattle.pm_world.specs.Legal.{frame_of, heard_bytes, ending_of, is_restart}
use Rattle.pm_world.specs.Life.{life, now}
use Rattle.pm_world.specs.Possible.{restarts_host}
use Rattle.pm_world.specs.Setup.{setup_of}
use Rattle.pm_world.specs.State.{asked}

-- after each of the events, the last job has sent at most twice as many frames as a job has passes,
-- with the one that is being sent
pub record AreFewFrames (config : Config) (passes : ℕ) (events : List Event) : Type 0 where
  pub few : (later before : List Event) → events ≡ later ++ before →
      frames_of (setup_of config passes) (life config passes before).entries ≤ 2 * passes

-- a delivery by which the write of this frame is heard whole: its bytes, ended by a stop
abbrev pub is_whole : List ℕ → Arrival → Bool
is_whole frame arrival =
    bytes_eq (heard_bytes frame arrival) frame && not (is_restart (ending_of Stop arrival))

-- an order and deliveries of its write, newest first
abbrev pub sent_by : Event → List Arrival → List Event → List Event
sent_by order arrivals before = map (λ arrival. Deliver arrival) arrivals ++ order ∷ before

-- an order, deliveries of its write, the end of that write, acknowledged or not, and an exchange that nothing disturbs
abbrev pub honest : Event → List Arrival → Bool → List Event → List Event
honest order arrivals acked before =
    Exchange Whole back.Whole ∷ Finish acked ∷ sent_by order arrivals before

-- An order went through: the host sent its write and one read, whose answer was good and had the
-- word; its job is done, the cell's word is confirmed, and the converter holds it.
pub record WentThrough (config : Config) (passes : ℕ) (cell : Cell) (word : ℕ) (acked : Bool) (before after : List Event) : Type 0 where
  pub answer : List ℕ
  pub good : good_word config.addr cell answer ≡ Some word
  pub two_frames : (life config passes after).entries
      ≡ Got answer ∷ Finished acked ∷ Accepted (host.Order cell word) ∷ (life config passes before).entries
  pub done : (now config passes after).end ≡ Some Done
  pub confirmed : standing_at (now config passes after).host cell ≡ Confirmed word
  pub held : word_at (now config passes after).device.words cell ≡ word

-- Each order among the events went through, of a word or in microvolts, where WRITE_PROTECT allowed its
-- code as it was accepted, its write was heard whole at least once, and nothing disturbed its read.
pub record OrdersGoThrough (config : Config) (passes : ℕ) (events : List Event) : Type 0 where
  pub through : (later before : List Event) (order : Event) (cell : Cell) (word : ℕ)
      (arrivals : List Arrival) (acked : Bool) →
      events ≡ later ++ honest order arrivals acked before →
      asked (now config passes before) order ≡ Some (host.Order cell word) →
      is_allowed (word_at (now config passes before).device.words Protect) (cell_code cell) ≡ true →
      list_any (is_whole (frame_of config.addr (cell_write cell word))) arrivals ≡ true →
      WentThrough config passes cell word acked before (honest order arrivals acked before)

-- the numbers of a configuration are those that its bytes on the bus spell
pub record IsSpelled (config : Config) : Type 0 where
  pub modes : (output : ℕ) → output < 8 → mode_for config output < 2 ^ 8
  pub coefficients : coefficients_of (coefficient_bytes config.coefficients) ≡ config.coefficients

-- The formats that a host holds are the converter's, and what it learned since its start it holds: the
-- format of an output's last learn that ended Learned. A learn that ended so leaves the converter's format until
-- the host restarts (`ended`). Any other job, while it is open and however it ended, leaves each format as it was
-- before (`kept`).
pub record FormatsAgree (config : Config) (passes : ℕ) (events : List Event) : Type 0 where
  pub held : (output : ℕ) (shape : Shape) →
      format_at (now config passes events).host output ≡ Some shape → shape ≡ shape_for config output
  pub learned : (output : ℕ) (shape : Shape) → output < config.count →
      format_of_output (setup_of config passes) (life config passes events).entries output ≡ Some shape →
      format_at (now config passes events).host output ≡ Some shape
  pub ended : (newer later before : List Event) (event : Event) (output : ℕ) →
      events ≡ newer ++ (later ++ event ∷ before) →
      asked (now config passes before) event ≡ Some (host.Learn output) →
      list_any begins_other later ≡ false →
      (now config passes (later ++ event ∷ before)).end ≡ Some Learned →
      list_any restarts_host newer ≡ false →
      format_at (now config passes events).host output ≡ Some (shape_for config output)
  pub kept : (newer later before : List Event) (event : Event) (job : host.Job) (output : ℕ) →
      events ≡ newer ++ (later ++ event ∷ before) → asked (now config passes before) event ≡ Some job →
      list_any begins_other later ≡ false →
      (now config passes (later ++ event ∷ before)).end ≢ Some Learned →
      format_at (now config passes (later ++ event ∷ before)).host output
      ≡ format_at (now config passes before).host output

-- An order in microvolts came to the order of the nearest word in the converter's format.
pub record OrdersNearest (config : Config) (passes : ℕ) (cell : Cell) (microvolts : ℤ) (before : List Event) : Type 0 where
  pub word : ℕ
  pub nearest : nearest_word (value_for config (output_of cell)) (shape_rank (shape_for config (output_of cell)))
      (micros microvolts) ≡ Some word
  pub ordered : (life config passes (OrderMicro cell microvolts ∷ before)).entries
      ≡ Accepted (host.Order cell word) ∷ (life config passes before).entries

-- each order in microvolts among the events did
pub record MicrosAreNearest (config : Config) (passes : ℕ) (events : List Event) : Type 0 where
  pub nearest : (later before : List Event) (cell : Cell) (microvolts : ℤ) →
      events ≡ later ++ OrderMicro cell microvolts ∷ before → OrdersNearest config passes cell microvolts before
