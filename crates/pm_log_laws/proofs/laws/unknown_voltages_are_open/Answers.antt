use Rattle.pm_log_laws.proofs.Claims.{Below, open-voltage}
use Rattle.pm_log_laws.proofs.laws.unknown_voltages_are_open.Goals as goal

pub returns : goal.returns
returns c =
    let laws : Below = record {
      transcripts = c.transcripts_are_followed.ensures;
      possible = c.possible_words_are_followed.ensures;
      logs = c.logs_are_transcripts.ensures;
      events = c.events_are_lived.ensures;
      lives = c.lives_are_followed.ensures;
      words = c.possible_words_are_held.ensures;
    } in
    open-voltage laws c.bands_are_exact.ensures
