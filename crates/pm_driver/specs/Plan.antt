-- What a simulated bus does, frame by frame, by its plan of faults: this project's own choice.
use Rattle.std.specs.Prelude.{◌≡◌, ◌+◌, ℕ, Bool, true, false, not, ◌||◌, ◌==◌, nat_lt, cond, if◌then◌else◌, is_some, slice_get, take, length, List, [], ◌∷◌, Option, Some, None}
use Rattle.pm_device.specs.declared.converter.Ending.TheVariants.{Stop, Restart}
use Rattle.pm_device.specs.Effect as device
use Rattle.pm_device.specs.Held.{Held}
use Rattle.pm_device.specs.History.{device_next}
use Rattle.pm_world.specs.declared.event.Arrival.{Arrival}
use Rattle.pm_world.specs.declared.event.Arrival.TheVariants as arrival
use Rattle.pm_world.specs.declared.event.Back.{Back}
use Rattle.pm_world.specs.declared.event.Back.TheVariants as back
use Rattle.pm_world.specs.Legal.{back_bytes, ending_of, heard_bytes, is_heard_whole, is_legal_hearing, is_legal_return}
use Rattle.pm_driver.specs.declared.adapter.WriteEnd.{WriteEnd}
use Rattle.pm_driver.specs.declared.adapter.WriteEnd.TheVariants as write
use Rattle.pm_driver.specs.declared.adapter.ReadEnd.{ReadEnd}
use Rattle.pm_driver.specs.declared.adapter.ReadEnd.TheVariants as read
use Rattle.pm_driver.specs.Acts.{Call, Wrote, Read}
use Rattle.pm_driver.specs.Adapter.{Asks, Sends, Try}
use Rattle.pm_driver.specs.declared.buses.fault.Fault.{Fault}
use Rattle.pm_driver.specs.declared.buses.simulated_bus.SimulatedBus.{SimulatedBus}
use Rattle.pm_part_laws.specs.Lemmas.Pageless.{answer_of}

-- how often the converter restarts by faults
abbrev pub restarts_of : List Fault → ℕ
restarts_of [] = 0
restarts_of (fault ∷ faults) = cond fault.restarts 1 0 + restarts_of faults

-- the converter after a restart, or none
abbrev pub disturbed : Held → Bool → Held
disturbed held restarts = if restarts then device_next held device.Restarted else held

-- after a packet as it arrives, which is lost where that isn't legal
abbrev pub held_after_packet : List ℕ → Held → Arrival → Held
held_after_packet frame held way =
    if is_legal_hearing frame (heard_bytes frame way) (ending_of Stop way)
    then device_next held (device.Hearing (heard_bytes frame way) (ending_of Stop way)) else held

abbrev pub delivered_some : List ℕ → Held → Option Arrival → Held
delivered_some frame held None = held
delivered_some frame held (Some way) = held_after_packet frame held way

-- after a request as it arrives, and what comes back: nothing where that isn't legal or is longer than a whole answer
abbrev pub held_after_request : List ℕ → Held → Arrival → Held
held_after_request request held way =
    if is_legal_hearing request (heard_bytes request way) (ending_of Restart way)
    then device_next held (device.Hearing (heard_bytes request way) (ending_of Restart way))
    else device_next held (device.Hearing [] Stop)

abbrev pub returned : List ℕ → ℕ → Held → Arrival → Back → List ℕ
returned request needed held way so =
    let answer = answer_of held request way in
    let bytes = back_bytes answer so in
    if not (is_legal_hearing request (heard_bytes request way) (ending_of Restart way)) then []
    else if nat_lt needed (length bytes)
    || not (is_legal_return request needed (is_heard_whole request (heard_bytes request way) (ending_of Restart way)) answer bytes)
    then [] else bytes

-- the converter at the turn of the fault that the plan has for a frame: none where the plan is at its end
abbrev pub turned_by : Option Fault → Held → Held
turned_by None held = held
turned_by (Some fault) held = disturbed held fault.restarts

-- what comes of a write then, and the converter after it
abbrev pub write_end : Option Fault → WriteEnd
write_end None = write.Acknowledged
write_end (Some fault) =
    if fault.unheard then write.Unheard else (if fault.acked then write.Acknowledged else write.Failed)

abbrev pub held_after_packet_by : Option Fault → List ℕ → Held → Held
held_after_packet_by None frame held = held_after_packet frame held arrival.Whole
held_after_packet_by (Some fault) frame held =
    if fault.unheard then held else delivered_some frame (delivered_some frame held fault.heard) fault.repeated

-- which bytes come back for a request, what comes of that, and the converter after it
abbrev pub came_by : Option Fault → List ℕ → ℕ → Held → List ℕ
came_by None request needed held = returned request needed held arrival.Whole back.Whole
came_by (Some fault) request needed held =
    if fault.unheard then [] else returned request needed held fault.request fault.back

abbrev pub is_unheard : Option Fault → Bool
is_unheard None = false
is_unheard (Some fault) = fault.unheard

abbrev pub came_end : ℕ → ReadEnd
came_end count = if count == 0 then read.Failed else read.Came count

abbrev pub read_end : Option Fault → List ℕ → ReadEnd
read_end fault came = if is_unheard fault then read.Unheard else came_end (length came)

abbrev pub held_after_request_by : Option Fault → List ℕ → Held → Held
held_after_request_by None request held = held_after_request request held arrival.Whole
held_after_request_by (Some fault) request held = if fault.unheard then held else held_after_request request held fault.request

-- every byte was acknowledged
abbrev pub is_acknowledged : WriteEnd → Bool
is_acknowledged write.Unheard = false
is_acknowledged write.Failed = false
is_acknowledged write.Acknowledged = true

-- what a call does to the converter, and what it answers, by the fault for its frame
abbrev pub gives_by : Option Fault → Held → Call → Held → Type 0
gives_by fault old (Wrote frame acked) new =
    (acked ≡ is_acknowledged (write_end fault)) × (new ≡ held_after_packet_by fault frame (turned_by fault old))
gives_by fault old (Read request room came) new =
    (came ≡ came_by fault request (length room) (turned_by fault old)) × (new ≡ held_after_request_by fault request (turned_by fault old))

-- what a try does to the converter, and how it ends, by the fault for its frame
abbrev pub tries_by : Option Fault → Held → Try → Held → Type 0
tries_by fault old (Sends frame end) new = (end ≡ write_end fault) × (new ≡ held_after_packet_by fault frame (turned_by fault old))
tries_by fault old (Asks request room end came) new =
    (came ≡ came_by fault request (length room) (turned_by fault old))
    × (end ≡ read_end fault came) × (new ≡ held_after_request_by fault request (turned_by fault old))

-- the fault of the frame to come
abbrev pub fault_next : SimulatedBus → Option Fault
fault_next bus = slice_get bus.plan.now bus.next

-- a call and a try leave the plan as it is, and use up the fault of their frame: then the next one's turn comes
pub record TurnsTo (old new : SimulatedBus) : Type 0 where
  pub plan : new.plan.now ≡ old.plan.now
  pub next : new.next ≡ cond (is_some (fault_next old)) (old.next + 1) old.next

pub record GivesPlanned (old : SimulatedBus) (call : Call) (new : SimulatedBus) : Type 0 where
  pub turn : TurnsTo old new
  pub gives : gives_by (fault_next old) old.device call new.device

pub record TriesPlanned (old : SimulatedBus) (try : Try) (new : SimulatedBus) : Type 0 where
  pub turn : TurnsTo old new
  pub tries : tries_by (fault_next old) old.device try new.device

-- what its calls and tries give, as the implementations have it
abbrev pub gives_so : SimulatedBus → Call → SimulatedBus → Type 0
gives_so old call new = GivesPlanned old call new

abbrev pub tries_so : SimulatedBus → Try → SimulatedBus → Type 0
tries_so old try new = TriesPlanned old try new

-- what a simulated bus has at its other end, and how often that restarted by the faults whose turn it was
abbrev pub device_in : SimulatedBus → Held
device_in bus = bus.device

abbrev pub restarts_so : SimulatedBus → ℕ
restarts_so bus = restarts_of (take bus.next bus.plan.now)
