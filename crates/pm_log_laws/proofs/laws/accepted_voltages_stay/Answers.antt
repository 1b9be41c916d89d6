use Rattle.std.proofs.Common.{sym, subst}
use Rattle.pm_num.specs.Ratio.{Ratio}
use Rattle.pm_limits.specs.Bounds.{IsWithin}
use Rattle.pm_log_laws.proofs.Claims.{commands-claimed, output-there, Below, command-stays}
use Rattle.pm_log_laws.proofs.laws.accepted_voltages_stay.Goals as goal

pub returns : goal.returns
returns c =
    let laws : Below = record {
      transcripts = c.transcripts_are_followed.ensures;
      possible = c.possible_words_are_followed.ensures;
      logs = c.logs_are_transcripts.ensures;
      events = c.events_are_lived.ensures;
      lives = c.lives_are_followed.ensures;
      words = c.possible_words_are_held.ensures;
    } in
    λ config passes later before log claims at output part least most spelled lived tells accepts is short stands missing leaves.
    let lived_then = laws.events.earlier config passes later before lived in
    let here = output-there laws config passes before log claims at output part least most lived_then tells accepts is in
    subst (λ (value : Ratio). IsWithin (record { least = least; most = most }) value)
    (sym (command-stays c.settings_move_by_the_open_job.ensures laws.events config passes output later before here lived leaves))
    (commands-claimed laws c.bands_are_held.ensures c.learned_formats_are_true.ensures config passes before log claims at output part least most
    spelled lived_then tells accepts is short stands missing)
