-- The law of captures, of texts of any length.
use Rattle.std.specs.Prelude.{◌≡◌, ℕ, Bool, false, List, None, replicate}
use Rattle.pm_trace.specs.TraceText.{trace_text}
use Rattle.pm_trace.specs.declared.formats.GivenFormats.{GivenFormats}
use Rattle.pm_decode.specs.Options.{plain_options}
use Rattle.pm_decode.specs.CaptureText.{capture_text}

-- what is shown without an option that changes it is what `pm_trace` shows of the same text
abbrev pub PlainCapturesAreTraces : Type 0
PlainCapturesAreTraces = (formats : GivenFormats) (long : Bool) (gap : ℕ) (parts muxes : List Bool) (text : List ℕ) →
    capture_text (plain_options formats long gap parts muxes) text ≡ trace_text text
