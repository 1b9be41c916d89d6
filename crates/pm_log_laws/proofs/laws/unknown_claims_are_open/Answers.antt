use Rattle.pm_log_laws.proofs.Claims.{Below, open-life}
use Rattle.pm_log_laws.proofs.laws.unknown_claims_are_open.Goals as goal

pub returns : goal.returns
returns c =
    let laws : Below = record {
      transcripts = c.transcripts_are_followed.ensures;
      possible = c.possible_words_are_followed.ensures;
      logs = c.logs_are_transcripts.ensures;
      events = c.events_are_lived.ensures;
      lives = c.lives_are_followed.ensures;
      words = c.possible_words_are_held.ensures;
    } in
    open-life laws c.cells_are_told_apart.ensures c.possible_words_are_exact.ensures
