use Rattle.std.proofs.Common.{◌≡◌, ◌≤◌, ◌++◌, string_bytes, take}
use Rattle.std.specs.List.{flat_map, range_with_len}
use Rattle.pm_text.specs.Report.{output_lines}
use Rattle.pm_text.proofs.report.outputs.push_outputs.Given as goal

-- the lines of the outputs so far were put
abbrev pub invariant-loop-output : goal.invariant-loop-output
invariant-loop-output l = record {
  written : string_bytes l.text ≡ string_bytes l.fn.text
      ++ flat_map (output_lines l.form l.world) (take l.output (range_with_len 0 l.world.device.config.count));
  within : l.output ≤ l.world.device.config.count;
}
