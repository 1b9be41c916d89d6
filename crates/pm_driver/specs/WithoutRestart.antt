-- A driver over a bus that restarts nothing: this project's own choice.
use Rattle.std.specs.Prelude.{◌≡◌, ℕ, Bool, true, List, Result}
use Rattle.pm_table.specs.declared.cell.Cell.{Cell}
use Rattle.pm_device.specs.Held.{Held}
use Rattle.pm_host.specs.declared.fault.HostFault.{HostFault}
use Rattle.pm_host.specs.declared.job.Job.{Job}
use Rattle.pm_host.specs.declared.job.JobEnd.{JobEnd}
use Rattle.pm_limits.specs.declared.fault.LimitFault.{LimitFault}
use Rattle.pm_driver.specs.Acts.{Call}
use Rattle.pm_driver.specs.Driven.{Driving, HasNoRestartSince, Runs}
use Rattle.pm_driver.specs.Looks.{Looks}

-- While a bus is so, its calls restart nothing, and it stays so.
abbrev pub AreWithoutRestart : {B : Type 0} → (B → Call → B → Type 0) → (B → ℕ) → (B → Bool) → Type 0
AreWithoutRestart {B = B} gives restarts is_so = (call : Call) (old new : B) → is_so old ≡ true → gives old call new →
    (restarts new ≡ restarts old) × (is_so new ≡ true)

-- Over a bus whose calls restart nothing no read that is no job ends it that the converter didn't restart since a cell was
-- read.
abbrev pub ReadsRestartNothing : {B : Type 0} → (B → Call → B → Type 0) → (B → Held) → (B → ℕ) → Type 0
ReadsRestartNothing {B = B} gives held restarts = (is_so : B → Bool) → AreWithoutRestart gives restarts is_so →
    (request room answer : List ℕ) (old new : Driving B) (result : Result ℕ HostFault) →
    Looks gives held restarts request room old result answer new → is_so old.bus ≡ true →
    (is_so new.bus ≡ true) × ((cell : Cell) → HasNoRestartSince cell old.guard.host (held old.bus) →
    HasNoRestartSince cell new.guard.host (held new.bus))

-- Over a bus whose calls restart nothing no job ends it that the converter didn't restart since a cell was read.
abbrev pub JobsRestartNothing : {B : Type 0} → (B → Call → B → Type 0) → (B → Held) → (B → ℕ) → Type 0
JobsRestartNothing {B = B} gives held restarts = (is_so : B → Bool) → AreWithoutRestart gives restarts is_so →
    (job : Job) (old new : Driving B) (result : Result JobEnd LimitFault) →
    Runs gives held restarts job old result new → is_so old.bus ≡ true →
    (is_so new.bus ≡ true) × ((cell : Cell) → HasNoRestartSince cell old.guard.host (held old.bus) →
    HasNoRestartSince cell new.guard.host (held new.bus))
