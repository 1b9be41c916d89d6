-- An event that is told as an order asks for it: no promise, but what proofs above cite.
use Rattle.std.specs.Prelude.{◌≡◌, ◌&&◌, ℕ, Bool, true, false, cond, is_none, is_some, List, [], ◌∷◌, Option, Some, None, refl}
use Rattle.std.specs.Option.{option_map_or}
use Rattle.std.proofs.Common.{ap}
use Rattle.pm_table.specs.declared.cell.Cell.{Cell}
use Rattle.pm_model.specs.declared.order_machine.PendingJob.{PendingJob}
use Rattle.pm_model.specs.declared.order_machine.PendingJob.TheVariants as pending
use Rattle.pm_model.specs.OrderMachine.{Accept, End}
use Rattle.pm_device.specs.declared.config.Config.{Config}
use Rattle.pm_host.specs.declared.command.Command.TheVariants.{StoreUserAll, RestoreUserAll}
use Rattle.pm_host.specs.Transcript as host
use Rattle.pm_world.specs.declared.event.Event.{Event}
use Rattle.pm_world.specs.declared.event.Event.TheVariants.{Deliver, Exchange, Finish, RestartHost, RestartDevice}
use Rattle.pm_world.specs.Life.{now}
use Rattle.pm_world.specs.Retelling.{accepts, open_pending, pending_of, taken_at, takes, steps_of_event, told_beside}
use Rattle.pm_world.specs.State.{asked}

-- an event that asks for no job is told as no order
not-beside : (config : Config) (passes : ℕ) (before : List Event) (cell : Cell) (word : ℕ) (event : Event) →
    told_beside config passes before event ≡ Accept (pending.Order cell word) ∷ [] → ⊥
unfolding told_beside
not-beside config passes before cell word (Exchange arrival back) h =
    ends (is_some (open_pending config passes before) && is_none (open_pending config passes (Exchange arrival back ∷ before))) h
  where
    ends : (b : Bool) → cond b (End ∷ []) [] ≡ Accept (pending.Order cell word) ∷ [] → ⊥
    ends true e = cc
    ends false e = cc
not-beside config passes before cell word (Finish acked) h =
    ends (is_some (open_pending config passes before) && is_none (open_pending config passes (Finish acked ∷ before))) h
  where
    ends : (b : Bool) → cond b (End ∷ []) [] ≡ Accept (pending.Order cell word) ∷ [] → ⊥
    ends true e = cc
    ends false e = cc
not-beside config passes before cell word (Deliver arrival) h = go (taken_at config passes before (Deliver arrival)) h where
  go : (o : Option PendingJob) → takes o ≡ Accept (pending.Order cell word) ∷ [] → ⊥
  go (Some job) e = cc
  go None e = cc
not-beside config passes before cell word RestartHost h = cc
not-beside config passes before cell word RestartDevice h = cc
not-beside config passes before cell word event h = cc

-- only an order is told as that
accepts-order : (cell : Cell) (word : ℕ) (job : host.Job) → accepts (pending_of job) ≡ Accept (pending.Order cell word) ∷ [] →
    job ≡ host.Order cell word
accepts-order cell word (host.Order c w) h =
    let same_cell : c ≡ cell = cc in
    let same_word : w ≡ word = cc in cc
accepts-order cell word (host.Send StoreUserAll) h = cc
accepts-order cell word (host.Send RestoreUserAll) h = cc
accepts-order cell word job h = cc

-- An event that is told as an order asked for it.
pub told-asked : (config : Config) (passes : ℕ) (before : List Event) (event : Event) (cell : Cell) (word : ℕ) →
    steps_of_event config passes before event ≡ Accept (pending.Order cell word) ∷ [] →
    asked (now config passes before) event ≡ Some (host.Order cell word)
unfolding steps_of_event
told-asked config passes before event cell word is = go (asked (now config passes before) event) is where
  go : (o : Option host.Job) →
      option_map_or (λ job. accepts (pending_of job)) o (told_beside config passes before event) ≡ Accept (pending.Order cell word) ∷ [] →
      o ≡ Some (host.Order cell word)
  go (Some job) h = ap (λ (j : host.Job). Some j) (accepts-order cell word job h)
  go None h = absurd (not-beside config passes before cell word event h)
