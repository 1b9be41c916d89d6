-- How a capture keeps what callers see of it.
use Rattle.pm_decode.specs.Capturing.{Kept}
use Rattle.pm_decode.specs.declared.capture.Capture.TheInside.{Inside}

abbrev pub kept_in_capture : Inside → Kept
kept_in_capture c = record { options = c.options; taken = c.taken; ended = c.ended; heard = c.heard; line = c.line }
