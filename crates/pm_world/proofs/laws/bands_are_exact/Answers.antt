use Rattle.pm_host.specs.Marks.{marks}
use Rattle.pm_world.specs.Bands.{end_choices}
use Rattle.pm_world.specs.Life.{life, now}
use Rattle.pm_world.specs.Setup.{setup_of}
use Rattle.pm_world.specs.Uncertainty.{due_before, since_restart, witness_events, witness_start}
use Rattle.pm_world.proofs.Retold.{end-left, ends-possible, witness-leaves}
use Rattle.pm_world.proofs.laws.bands_are_exact.Goals as goal

pub returns : goal.returns
returns c = λ config passes part events sides spelled lived fresh untold open'.
    let laws = c.lower_laws.ensures in
    let entries = since_restart (life config passes events).entries in
    let chosen = end_choices part config (now config passes events).host sides in
    let leaves = witness-leaves laws chosen lived fresh open' (ends-possible laws part sides lived fresh open' untold) in (
      leaves,
      end-left laws part sides lived spelled entries (witness_start config (due_before chosen (marks (setup_of config passes) entries)))
          (witness_events (setup_of config passes) chosen entries) leaves,
    )
