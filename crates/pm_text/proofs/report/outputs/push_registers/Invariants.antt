use Rattle.std.proofs.Common.{◌≡◌, ◌++◌, string_bytes, take}
use Rattle.std.specs.List.{flat_map}
use Rattle.pm_text.specs.Kinds.{registers_of}
use Rattle.pm_text.specs.Report.{register_line}
use Rattle.pm_text.proofs.report.outputs.push_registers.Given as goal

-- the lines of the registers so far were put
abbrev pub invariant-loop-register : goal.invariant-loop-register
invariant-loop-register l = record {
  written :
      string_bytes l.text
      ≡ string_bytes l.fn.text ++ flat_map (register_line l.fn.form l.world l.output) (take l.register-index l.register-items);
  items : l.register-items ≡ registers_of l.fn.form;
}
