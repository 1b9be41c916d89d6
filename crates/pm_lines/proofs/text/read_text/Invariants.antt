use Rattle.std.proofs.Common.{◌≡◌, ◌-◌, ◌≤◌, false, vec_len}
use Rattle.std.specs.Io.KnownBytes.{Consumes}
use Rattle.pm_lines.specs.Streams.{max_text}
use Rattle.pm_lines.proofs.text.read_text.Given as goal

-- what was read is the text so far, which isn't too long, and no read failed
abbrev pub invariant-reads : goal.invariant-reads
invariant-reads g l = record {
  given : Consumes (g.R.Read.remaining l.fn.source.inner) (g.R.Read.remaining l.source.inner) l.text.items;
  short : vec_len l.text ≤ max_text;
  sound : l.source.failed ≡ false;
}

abbrev pub decreases-reads : goal.decreases-reads
decreases-reads g l = max_text - vec_len l.text
