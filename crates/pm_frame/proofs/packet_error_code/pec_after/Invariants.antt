use Rattle.std.proofs.Common.{◌≡◌, ℕ, List, ◌++◌, take}
use Rattle.pm_frame.specs.Pec.{pec_of}
use Rattle.pm_frame.proofs.packet_error_code.pec_after.Given as goal

-- the register is the code of what came before with the bytes so far
abbrev pub invariant-loop-byte : goal.invariant-loop-byte
invariant-loop-byte l =
    (front : List ℕ) → l.fn.so_far ≡ pec_of front → l.register ≡ pec_of (front ++ take l.byte-index l.bytes)
