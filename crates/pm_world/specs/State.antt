-- What a world holds, and what an event makes of it: this project's own choice.
use Rattle.std.specs.Prelude.{ℕ, ◌+◌, ◌^◌, not, nat_le, List, Option, Some, None, IsSome, option_map, Result, Ok, Err, ◌≡◌}
use Rattle.std.specs.Option.{option_or, option_map_or}
use Rattle.pm_frame.specs.declared.message.Message.{Message}
use Rattle.pm_frame.specs.Layout.{is_read_message}
use Rattle.pm_frame.specs.Fault.{whole_answer}
use Rattle.pm_device.specs.Held.{Held}
use Rattle.pm_device.specs.Effect as device
use Rattle.pm_device.specs.History.{device_next}
use Rattle.pm_device.specs.Reply.{reply_of}
pub use Rattle.pm_table.specs.Rules.{rule}
use Rattle.pm_host.specs.declared.fault.HostFault.{HostFault}
use Rattle.pm_host.specs.declared.job.JobEnd.{JobEnd}
use Rattle.pm_host.specs.declared.host.Step.{Step}
use Rattle.pm_host.specs.declared.host.Step.TheVariants.{Next, Ended}
use Rattle.pm_host.specs.Summary.{Summary, sending_in, host_next, step_of}
use Rattle.pm_host.specs.Refusals.{micro_word}
use Rattle.pm_host.specs.Transcript as host
use Rattle.pm_world.specs.declared.event.Event.{Event}
use Rattle.pm_world.specs.declared.event.Event.TheVariants.{OrderMicro, Deliver, Finish, Exchange, RestartDevice, RestartHost, Reading}
use Rattle.pm_world.specs.declared.event.Arrival.{Arrival}
use Rattle.pm_world.specs.declared.event.Back.{Back}
use Rattle.pm_world.specs.declared.cause.Cause.{Cause}
use Rattle.pm_world.specs.declared.cause.Cause.TheVariants.{Full, NothingSent, WrongKind, NotBetrayed, Host as Refuses}
use Rattle.pm_world.specs.Job.{job_of, refusal_of_event}
use Rattle.pm_world.specs.Legal.{frame_of, heard_bytes, heard_ending, is_legal_hearing, is_legal_return, is_heard_whole, answer_in}
use Rattle.pm_world.specs.Legal.{back_bytes}

pub record State : Type 0 where
  -- what the converter holds
  pub device : Held
  -- what the host holds
  pub host : Summary
  -- how the last job since the host's start ended; None while it is open, and where there is none
  pub end : Option JobEnd
  -- how many events were taken
  pub taken : ℕ

-- what the two ends are told by an event: each of them one thing, or none
pub record Share : Type 0 where
  pub heard : Option device.Event
  pub told : Option host.Entry

abbrev pub no_share : Share
no_share = record { heard = None; told = None }

abbrev pub tells : host.Entry → Share
tells entry = record { heard = None; told = Some entry }

abbrev pub hears : device.Event → Share
hears event = record { heard = Some event; told = None }

-- which job an event asks the host for
abbrev pub asked : State → Event → Option host.Job
asked s event = job_of s.host event

-- the converter hears a frame of a message as it arrives
abbrev pub hearing : ℕ → Message → Arrival → device.Event
hearing addr message arrival =
    device.Hearing (heard_bytes (frame_of addr message) arrival) (heard_ending message arrival)

-- the converter's answer to a request as it arrives
abbrev pub answer_to : Held → ℕ → Message → Arrival → List ℕ
answer_to held addr message arrival = answer_in
    (reply_of held (heard_bytes (frame_of addr message) arrival) (heard_ending message arrival))

-- what a delivery, and an exchange, of the message that is being sent tells the ends
abbrev pub delivered : State → Arrival → Option Message → Share
delivered s arrival None = no_share
delivered s arrival (Some message) = hears (hearing s.host.setup.addr message arrival)

abbrev pub exchanged : State → Arrival → Back → Option Message → Share
exchanged s arrival back None = no_share
exchanged s arrival back (Some message) = record {
  heard = Some (hearing s.host.setup.addr message arrival);
  told = Some (host.Got (back_bytes (answer_to s.device s.host.setup.addr message arrival) back));
}

-- what an event that asks for no job tells the ends
abbrev pub share_beside : State → Event → Share
share_beside s (Deliver arrival) = delivered s arrival (sending_in s.host)
share_beside s (Finish acked) = tells (host.Finished acked)
share_beside s (Exchange arrival back) = exchanged s arrival back (sending_in s.host)
share_beside s RestartDevice = hears device.Restarted
share_beside s RestartHost = tells host.Restarted
share_beside s (Reading output code word) = hears (device.Reading output code.0 word)
share_beside s _ = no_share

-- what an event tells the ends: a job that it asks for is accepted
abbrev pub share_of : State → Event → Share
share_of s event = option_map_or (λ job. tells (host.Accepted job)) (asked s event) (share_beside s event)

-- how the last job stands after what the host was told
abbrev pub end_by : Step → Option JobEnd
end_by Next = None
end_by (Ended end) = Some end

-- each end after what it was told
abbrev pub device_after : Held → Option device.Event → Held
device_after held None = held
device_after held (Some event) = device_next held event

abbrev pub host_after : Summary → Option host.Entry → Summary
host_after s None = s
host_after s (Some entry) = host_next s entry

abbrev pub end_after : Summary → Option JobEnd → Option host.Entry → Option JobEnd
end_after s end None = end
end_after s end (Some entry) = end_by (step_of s entry)

-- the world after its ends were told this
abbrev pub shared : State → Share → State
shared s share = record {
  device = device_after s.device share.heard;
  host = host_after s.host share.told;
  end = end_after s.host s.end share.told;
  taken = s.taken;
}

-- one more event was taken
abbrev pub event_counted : State → State
event_counted s = record s { taken = s.taken + 1 }

-- what an event makes of a world
unfoldable pub next : State → Event → State
next s event = event_counted (shared s (share_of s event))

-- S4 where the host refuses
abbrev pub refused : Option HostFault → Option Cause
refused fault = option_map (λ f. Refuses f) fault

-- S1 for a hearing that isn't legal
abbrev pub hearing_cause : ℕ → Message → Arrival → Option Cause
hearing_cause addr message arrival =
    let frame = frame_of addr message in
    rule (not (is_legal_hearing frame (heard_bytes frame arrival) (heard_ending message arrival)))
    NotBetrayed

-- S1 for a return that isn't legal
abbrev pub return_cause : Held → ℕ → Message → Arrival → Back → Option Cause
return_cause held addr message arrival back =
    let frame = frame_of addr message in
    let answer = answer_to held addr message arrival in
    let whole = is_heard_whole frame (heard_bytes frame arrival) (heard_ending message arrival) in
    rule (not (is_legal_return frame (whole_answer message) whole answer (back_bytes answer back))) NotBetrayed

-- S2, S3 and S1 of a delivery, of a finish and of an exchange
abbrev pub delivery_cause : State → Arrival → Option Message → Option Cause
delivery_cause s arrival None = Some NothingSent
delivery_cause s arrival (Some message) =
    option_or (rule (is_read_message message) WrongKind)
    (hearing_cause s.host.setup.addr message arrival)

abbrev pub finish_cause : Option Message → Option Cause
finish_cause None = Some NothingSent
finish_cause (Some message) = rule (is_read_message message) WrongKind

abbrev pub exchange_cause : State → Arrival → Back → Option Message → Option Cause
exchange_cause s arrival back None = Some NothingSent
exchange_cause s arrival back (Some message) =
    option_or (rule (not (is_read_message message)) WrongKind)
    (option_or (hearing_cause s.host.setup.addr message arrival)
    (return_cause s.device s.host.setup.addr message arrival back))

-- why an event that asks for no job isn't taken
abbrev pub cause_beside : State → Event → Option Cause
cause_beside s (Deliver arrival) = delivery_cause s arrival (sending_in s.host)
cause_beside s (Finish acked) = finish_cause (sending_in s.host)
cause_beside s (Exchange arrival back) = exchange_cause s arrival back (sending_in s.host)
cause_beside s _ = None

-- why an event isn't taken, but for the world being full
abbrev pub event_cause : State → Event → Option Cause
event_cause s event = option_or (refused (refusal_of_event s.host event)) (cause_beside s event)

-- how many events a world takes
abbrev pub event_limit : ℕ
event_limit = 2 ^ 48

-- why an event isn't taken: the first of S5, S2, S3, S1 and S4 that applies
unfoldable pub cause_of : State → Event → Option Cause
cause_of s event = option_or (rule (nat_le event_limit s.taken) Full) (event_cause s event)

-- an order in microvolts that isn't refused has a word
abbrev pub HasWord : State → Event → Type 0
HasWord s (OrderMicro cell x) = IsSome (micro_word s.host cell x)
HasWord s _ = Unit {0}

-- an event is taken: no cause is against it
pub record IsTaken (s : State) (event : Event) : Type 0 where
  pub free : cause_of s event ≡ None
  pub word : HasWord s event

-- what a call that is handed an event does: it is taken where no cause is against it, and otherwise
-- the first cause is answered and nothing changes
abbrev pub Steps : State → Event → Result (Unit {0}) Cause → State → Type 0
Steps old event (Ok done) new = IsTaken old event × (new ≡ next old event)
Steps old event (Err cause) new = (cause_of old event ≡ Some cause) × (new ≡ old)

-- what a part of that call does, which knows that the world isn't full: the event happens, and isn't counted, where no cause is against it;
-- otherwise the first cause is answered and nothing changes
abbrev pub Acts : State → Event → Result (Unit {0}) Cause → State → Type 0
Acts old event (Ok done) new =
    (event_cause old event ≡ None) × HasWord old event × (new ≡ shared old (share_of old event))
Acts old event (Err cause) new = (event_cause old event ≡ Some cause) × (new ≡ old)
