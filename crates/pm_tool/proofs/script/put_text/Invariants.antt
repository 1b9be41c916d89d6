use Rattle.std.proofs.Common.{◌≡◌, ◌≤◌, ◌++◌, false, take}
use Rattle.std.specs.List.{flat_map, range_with_len}
use Rattle.std.specs.Io.KnownBytes.{Appends}
use Rattle.pm_tool.specs.Script.{output_at}
use Rattle.pm_tool.proofs.script.put_text.Given as goal

-- the answers' lines and those of the outputs so far were written, and no call failed
abbrev pub invariant-outputs : goal.invariant-outputs
invariant-outputs g l = record {
  written :
      Appends (g.W.Write.contents l.fn.writer.inner) (g.W.Write.contents l.writer.inner)
      (l.lines ++ flat_map (output_at l.converter) (take l.output (range_with_len 0 l.converter.config.count)));
  sound : l.writer.failed ≡ false;
  within : l.output ≤ l.converter.config.count;
}
