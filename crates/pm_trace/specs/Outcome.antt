-- What the decoding of an input results in. This project's own choice.
use Rattle.std.specs.Prelude.{Some, Ok}
use Rattle.pm_lines.specs.Engine.{Engine}
use Rattle.pm_trace.specs.Counts.{counts_of}
use Rattle.pm_trace.specs.Decoding.{said}
use Rattle.pm_trace.specs.Trace.{trace_of}
use Rattle.pm_trace.specs.TraceText.{decode_end_of, told_lines_text, trace_text}
use Rattle.pm_trace.specs.declared.decode_end.DecodeEnd.{DecodeEnd}

-- a decoding as an engine: no trace is refused for what it says, and the lines that ended are written before the
-- next ones are read
abbrev pub decoding : Engine DecodeEnd
decoding = record {
  whole = λ input. Ok (trace_text input, decode_end_of (counts_of (trace_of input)));
  early = Some (λ front. told_lines_text (said front));
}
