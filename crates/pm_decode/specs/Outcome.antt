-- What the telling of a capture results in. This project's own choice.
use Rattle.std.specs.Prelude.{Some, Ok}
use Rattle.pm_lines.specs.Engine.{Engine}
use Rattle.pm_decode.specs.Capturing.{said_text}
use Rattle.pm_decode.specs.CaptureText.{capture_end, capture_text}
use Rattle.pm_decode.specs.declared.telling.TellEnd.{TellEnd}
use Rattle.pm_decode.specs.declared.options.TellOptions.{TellOptions}

-- a telling as an engine: no capture is refused for what it says, and the lines that ended are written before the next
-- ones are read
abbrev pub telling_engine : TellOptions → Engine TellEnd
telling_engine options = record {
  whole = λ input. Ok (capture_text options input, capture_end options input);
  early = Some (λ front. said_text options front);
}
