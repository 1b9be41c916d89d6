use Rattle.std.proofs.Common.{◌≡◌, ◌+◌, take}
use Rattle.std.specs.List.{fold}
use Rattle.pm_log.specs.Texts.{with_byte}
use Rattle.pm_log.proofs.log_text.LogText.take.Given as goal

-- the bytes so far were taken
abbrev pub invariant-loop-byte : goal.invariant-loop-byte
invariant-loop-byte l = record {
  kept : l.self ≡ fold with_byte l.fn.self (take l.byte-index l.bytes);
  taken : l.self.taken ≡ l.fn.self.taken + l.byte-index;
}
