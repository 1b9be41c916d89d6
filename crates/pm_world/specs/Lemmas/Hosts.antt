-- The host of a life by its configuration: no promise, but what proofs above cite.
use Rattle.std.specs.Prelude.{◌≡◌, ℕ, List, refl}
use Rattle.std.proofs.Common.{ap₂}
use Rattle.pm_device.specs.declared.config.Config.{Config}
use Rattle.pm_host.specs.Now.{host_now}
use Rattle.pm_world.specs.declared.event.Event.{Event}
use Rattle.pm_world.specs.Life.{now, state_of}
use Rattle.pm_world.specs.Setup.{setup_of}

-- The host of a life has the configuration's outputs.
pub same-outputs : (config : Config) (passes : ℕ) (events : List Event) → (now config passes events).host.setup.outputs ≡ config.count
unfolding now state_of host_now
same-outputs config passes events = refl

-- The hosts of like configurations are made alike.
pub like-setup : (config other : Config) (passes : ℕ) → other.addr ≡ config.addr → other.count ≡ config.count →
    setup_of other passes ≡ setup_of config passes
like-setup config other passes addr count = ap₂ (λ a n. record { addr = a; outputs = n; passes = passes }) addr count
