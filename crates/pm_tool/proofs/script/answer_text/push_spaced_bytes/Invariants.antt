use Rattle.std.proofs.Common.{◌≡◌, ◌+◌, ◌*◌, ◌++◌, drop}
use Rattle.arrayvec.specs.ArrayVec.{array_vec_len}
use Rattle.pm_lines.specs.Numbers.{spaced_bytes}
use Rattle.pm_tool.proofs.script.answer_text.push_spaced_bytes.Given as goal

-- what is written and what is left are the whole, and each byte took three
abbrev pub invariant-loop-byte : goal.invariant-loop-byte
invariant-loop-byte l = record {
  all : l.text.items ++ spaced_bytes (drop l.byte-index l.bytes) ≡ l.fn.text.items ++ spaced_bytes l.bytes;
  room : array_vec_len l.text ≡ array_vec_len l.fn.text + 3 * l.byte-index;
}
