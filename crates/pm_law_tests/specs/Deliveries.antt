-- A look at an output of a part, as a caller of its law has it.
use Rattle.std.specs.Prelude.{◌≡◌, ◌<◌, ℕ, List, ◌++◌}
use Rattle.pm_device.specs.Held.{Held}
use Rattle.pm_delivery.specs.declared.delivery.Delivery.{Delivery}
use Rattle.pm_part_laws.specs.Happenings.{Happening, beside}
use Rattle.pm_sequence_laws.specs.Looks.{IsLook}

-- the part as it was when the host began, what happened since the look began, and before
pub record LookLife : Type 0 where
  pub held : Held
  pub passes : ℕ
  pub later : List Happening
  pub before : List Happening

-- what happened led to this look and this converter
pub record LooksAt (life : LookLife) (d : Delivery) (device : Held) : Type 0 where
  pub look : IsLook life.held life.passes life.before d life.later
  pub here : d.output < life.held.config.count
  pub device_is : device ≡ (beside life.held life.passes (life.later ++ life.before)).device
