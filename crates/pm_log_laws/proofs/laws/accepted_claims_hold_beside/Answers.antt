use Rattle.pm_log_laws.proofs.Claims.{claims-beside}
use Rattle.pm_log_laws.proofs.laws.accepted_claims_hold_beside.Goals as goal

pub returns : goal.returns
returns c = claims-beside c.same_settings_live_alike.ensures c.lists_say_enough.ensures c.accepted_claims_are_held.ensures
    c.accepted_claims_stay.ensures c.accepted_voltages_stay.ensures
