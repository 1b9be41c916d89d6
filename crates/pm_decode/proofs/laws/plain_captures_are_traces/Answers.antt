use Rattle.pm_decode.proofs.Shown.{plain_text}
use Rattle.pm_decode.proofs.laws.plain_captures_are_traces.Goals as goal

pub returns : goal.returns
returns c = plain_text
