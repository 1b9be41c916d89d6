use Rattle.pm_log_laws.proofs.Claims.{commands-claimed, Below, claimed, held-now, held-then}
use Rattle.pm_log_laws.proofs.laws.accepted_claims_are_held.Goals as goal

pub returns : goal.returns
returns c =
    let laws : Below = record {
      transcripts = c.transcripts_are_followed.ensures;
      possible = c.possible_words_are_followed.ensures;
      logs = c.logs_are_transcripts.ensures;
      events = c.events_are_lived.ensures;
      lives = c.lives_are_followed.ensures;
      words = c.possible_words_are_held.ensures;
    } in
    record {
      read = λ config passes events log claims at cell word lived tells accepts is.
          held-then laws config passes events cell word lived
          (claimed laws config passes events log claims at cell word lived tells accepts is);
      held = λ config passes events log claims at cell word lived tells accepts is since.
          held-now laws config passes events cell word lived
          (claimed laws config passes events log claims at cell word lived tells accepts is) since;
      commands = commands-claimed laws c.bands_are_held.ensures c.learned_formats_are_true.ensures;
    }
