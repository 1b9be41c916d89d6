-- What a line reads as, seen as its bytes.
use Rattle.std.specs.Prelude.{option_map, Result}
use Rattle.std.specs.Result.{result_map_both}
use Rattle.pm_trace.specs.declared.line_fault.LineFault.{LineFault}
use Rattle.pm_trace.specs.declared.trace_line.TraceLine.{TraceLine}
use Rattle.pm_trace.specs.declared.packet.Packet.{Packet}
use Rattle.pm_decode.specs.Readings.{Reading}
use Rattle.pm_decode.specs.declared.timed_line.LineReading.{LineReading}

abbrev pub packet_in : Packet → TraceLine
packet_in packet = record { write = packet.write.now; read = option_map (λ bytes. bytes.now) packet.read }

abbrev pub parts_in : Result Packet LineFault → Result TraceLine LineFault
parts_in packet = result_map_both packet_in (λ fault. fault) packet

abbrev pub reading_in_line : LineReading → Reading
reading_in_line line = record { time = line.time; parts = parts_in line.packet }
