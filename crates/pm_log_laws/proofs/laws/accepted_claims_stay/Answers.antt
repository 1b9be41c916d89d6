use Rattle.std.proofs.Common.{◌∙◌}
use Rattle.pm_log_laws.proofs.Claims.{Below, claimed, held-now, stay}
use Rattle.pm_log_laws.proofs.laws.accepted_claims_stay.Goals as goal

pub returns : goal.returns
returns c =
    let laws : Below = record {
      transcripts = c.transcripts_are_followed.ensures;
      possible = c.possible_words_are_followed.ensures;
      logs = c.logs_are_transcripts.ensures;
      events = c.events_are_lived.ensures;
      lives = c.lives_are_followed.ensures;
      words = c.possible_words_are_held.ensures;
    } in
    λ config passes later before log claims at cell word lived tells accepts is since leaves.
    let lived_then = laws.events.earlier config passes later before lived in
    let claim = claimed laws config passes before log claims at cell word lived_then tells accepts is in
    stay c.settings_move_by_the_open_job.ensures laws.events config passes cell before claim.there later lived leaves
    ∙ held-now laws config passes before cell word lived_then claim since
