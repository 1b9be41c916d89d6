-- What an event asks a host for, which event asks for a job, and what the host says to it: this project's own choice.
use Rattle.std.specs.Prelude.{Option, Some, None, option_and_then}
use Rattle.pm_host.specs.declared.command.Command.TheVariants.{ClearFaults, StoreUserAll, RestoreUserAll}
use Rattle.pm_host.specs.declared.fault.HostFault.{HostFault}
use Rattle.pm_host.specs.declared.job.Job.{Job}
use Rattle.pm_host.specs.declared.job.Job.TheVariants as job
use Rattle.pm_host.specs.Jobs.{accepted_job, begin_fault}
use Rattle.pm_host.specs.Summary.{Summary}
use Rattle.pm_host.specs.Transcript as host
use Rattle.pm_world.specs.declared.event.Event.{Event}
use Rattle.pm_world.specs.declared.event.Event.TheVariants.{Order, OrderMicro, Check, Learn, Clear, Store, Restore}

-- the job that an event asks the host for; None where it asks for none
abbrev pub asked_by : Event → Option Job
asked_by (Order cell word) = Some (job.Order cell word)
asked_by (OrderMicro cell x) = Some (job.OrderMicro cell x)
asked_by (Check cell) = Some (job.Check cell)
asked_by (Learn output) = Some (job.Learn output)
asked_by (Clear output) = Some (job.Send (ClearFaults output))
asked_by Store = Some (job.Send StoreUserAll)
asked_by Restore = Some (job.Send RestoreUserAll)
asked_by _ = None

-- the event that asks for a job
abbrev pub event_of : Job → Event
event_of (job.Order cell word) = Order cell word
event_of (job.OrderMicro cell x) = OrderMicro cell x
event_of (job.Check cell) = Check cell
event_of (job.Learn output) = Learn output
event_of (job.Send (ClearFaults output)) = Clear output
event_of (job.Send StoreUserAll) = Store
event_of (job.Send RestoreUserAll) = Restore

-- the job of an event that the host accepts
abbrev pub job_of : Summary → Event → Option host.Job
job_of s event = option_and_then (accepted_job s) (asked_by event)

-- why the host refuses the job of an event; None where it accepts it, and where there is none
abbrev pub refusal_of_event : Summary → Event → Option HostFault
refusal_of_event s event = option_and_then (begin_fault s) (asked_by event)
