use Rattle.std.proofs.Common.{ℕ, List, ◌<◌, ◌^◌, length, get_or, arith}
use Rattle.pm_frame.proofs.PacketErrorCode.{pec_of-further}
use Rattle.pm_frame.proofs.packet_error_code.pec_after.Goals as goal

-- the next byte is one byte more
pub loop-byte-preserved : goal.loop-byte-preserved
loop-byte-preserved c front starts =
    let bytes : List ℕ = c.args.bytes.now in
    let index : ℕ = c.loop-byte.byte-index in
    let within : index < length bytes = omega arith in
    let fits : get_or bytes index 0 < 2 ^ 8 = omega (arith, c.type_inv.bytes index) in
    let so_far = c.loop-byte.invariant front starts in
    let further = pec_of-further front bytes index within fits in
    cc
