-- What a read does that is no job, and which bytes it may send: this project's own choice.
use Rattle.std.specs.Prelude.{◌≡◌, ◌≤◌, ℕ, List, [], ◌∷◌, length, take, false, None, Result, IfOk, OnErr}
use Rattle.std.specs.Result.{result_err}
use Rattle.pm_table.specs.Commands.{is_written}
use Rattle.pm_table.specs.Rules.{rule}
use Rattle.pm_frame.specs.declared.message.Message.{Message}
use Rattle.pm_frame.specs.Layout.{IsRequest}
use Rattle.pm_device.specs.Effect.{kept_in}
use Rattle.pm_device.specs.Held.{Held}
use Rattle.pm_host.specs.declared.fault.HostFault.{HostFault}
use Rattle.pm_host.specs.declared.fault.HostFault.TheVariants.{Busy}
use Rattle.pm_host.specs.Refusals.{is_busy}
use Rattle.pm_driver.specs.Acts.{Call, IsNoWrite, Looked, Read}
use Rattle.pm_driver.specs.Driven.{Driving, driven}
use Rattle.pm_driver.specs.Lives.{Leads}

-- What a read that is no job does. It is refused with H3 exactly where a job is open, and then nothing changes, in the
-- room neither. Otherwise it is one call of the bus, with this request and this room, and its answer is that of the bus
-- (`once`, `fits`). The host isn't told of it, and it and its limits stay (`guard`). Each life that led to the driver leads
-- on, by restarts of the converter and readings alone (`leads`). While the bus counts no restart, each setting, the store and
-- PAGE stay (`settings`).
pub record Looks {B : Type 0} (gives : B → Call → B → Type 0) (held : B → Held) (restarts : B → ℕ) (request room : List ℕ) (old : Driving B) (result : Result ℕ HostFault) (answer : List ℕ) (new : Driving B) : Type 0 where
  pub fault : result_err result ≡ rule (is_busy old.guard.host) Busy
  pub fits : IfOk result (λ count. count ≤ length answer)
  pub once : IfOk result (λ count. gives old.bus (Read request room (take count answer)) new.bus)
  pub leads : IfOk result (λ count. Leads gives held restarts (Looked request room (take count answer) ∷ []) None
      (driven old) (driven new))
  pub err : OnErr result ((new ≡ old) × (answer ≡ room))
  pub guard : new.guard ≡ old.guard
  pub settings : restarts new.bus ≡ restarts old.bus → kept_in (held new.bus) ≡ kept_in (held old.bus)

-- No beginning is a write to any address: of up to two bytes, which the request of a plain read or a block read of any code
-- has (`short`), of bytes whose code isn't written (`unwritten`), as PAGE_PLUS_READ of any page and code, and of the request of a
-- message that reads (`message`).
pub record RequestsAreNoWrites : Type 0 where
  pub short : (addr : ℕ) (bytes : List ℕ) → length bytes ≤ 2 → IsNoWrite addr bytes
  pub unwritten : (addr start code : ℕ) (rest bytes : List ℕ) → bytes ≡ start ∷ code ∷ rest → is_written code ≡ false →
      IsNoWrite addr bytes
  pub message : (addr own : ℕ) (request : Message) (bytes : List ℕ) → IsRequest own request bytes → IsNoWrite addr bytes
