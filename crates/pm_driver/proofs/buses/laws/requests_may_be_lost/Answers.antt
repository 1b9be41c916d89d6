-- No byte changes nothing, whatever a converter holds.
use Rattle.std.proofs.Common.{◌≡◌, [], refl}
use Rattle.pm_frame.specs.Fault.{write_fault, opening_fault, address_fault}
use Rattle.pm_device.specs.declared.converter.Ending.TheVariants.{Stop}
use Rattle.pm_device.specs.Effect as device
use Rattle.pm_device.specs.Held.{Held}
use Rattle.pm_device.specs.History.{device_next, after_outcome}
use Rattle.pm_device.specs.Verdict.{verdict_of}
use Rattle.pm_driver.proofs.Lives.{lost-asked}
use Rattle.pm_driver.proofs.buses.laws.requests_may_be_lost.Goals as goal

-- hearing no byte and then a stop changes nothing that a converter holds
unchanged : (held : Held) → held ≡ device_next held (device.Hearing [] Stop)
unfolding device_next after_outcome verdict_of write_fault opening_fault address_fault
unchanged held = refl

pub returns : goal.returns
returns c = λ request needed held n some. lost-asked request needed held held some (unchanged held) n
