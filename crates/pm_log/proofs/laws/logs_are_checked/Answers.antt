use Rattle.pm_log.proofs.Follow.{accepts, refuses, says, Below}
use Rattle.pm_log.proofs.Texts.{text_lines}
use Rattle.pm_log.proofs.laws.logs_are_checked.Goals as goal

pub returns : goal.returns
returns c =
    let below : Below = record { apart = c.cells_are_told_apart.ensures; placed = c.cells_have_places.ensures; kept = c.transcripts_are_followed.ensures.kept } in
    record { lines = text_lines; claims = record { accepted = accepts below; refused = refuses below; lacking = says below } }
