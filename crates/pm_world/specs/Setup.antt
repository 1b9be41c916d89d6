-- How a world starts: this project's own choice. The host has the configuration's address and outputs.
use Rattle.std.specs.Prelude.{◌≡◌, ℕ, ◌≤◌, Option, None, option_map}
use Rattle.std.specs.Option.{option_or}
use Rattle.pm_device.specs.declared.config.Config.{Config}
use Rattle.pm_device.specs.Start.{IsSound, config_fault}
use Rattle.pm_device.specs.History.{start_of}
use Rattle.pm_host.specs.Refusals.{IsSetup, setup_fault as host_fault}
use Rattle.pm_host.specs.Summary as host
use Rattle.pm_host.specs.Transcript.{Setup}
use Rattle.pm_setup.specs.declared.setup_fault.SetupFault.{SetupFault}
use Rattle.pm_setup.specs.declared.setup_fault.SetupFault.TheVariants.{Device, Host}
use Rattle.pm_world.specs.State.{State, event_limit}

abbrev pub setup_of : Config → ℕ → Setup
setup_of config passes = record { addr = config.addr; outputs = config.count; passes = passes }

-- why no world is made: the converter's fault before the host's
unfoldable pub world_fault : Config → ℕ → Option SetupFault
world_fault config passes =
    option_or (option_map (λ fault. Device fault) (config_fault config))
    (option_map (λ fault. Host fault) (host_fault config.count passes))

-- a world whose two ends start
unfoldable pub world_start : Config → ℕ → State
world_start config passes = record {
  device = start_of config;
  host = host.start (setup_of config passes);
  end = None;
  taken = 0;
}

-- what holds of each world between two calls: of its host's setup, of its converter's configuration
-- and of the number of its events
pub record IsMatched (setup : Setup) (config : Config) (taken : ℕ) : Type 0 where
  pub addr : setup.addr ≡ config.addr
  pub outputs : setup.outputs ≡ config.count
  pub made : IsSetup setup
  pub sound : IsSound config
  pub room : taken ≤ event_limit
