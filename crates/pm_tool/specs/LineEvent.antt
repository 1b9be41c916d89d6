-- What a line of `hear` asks, with the bytes of its frame.
use Rattle.std.specs.Prelude.{ℕ, List}
use Rattle.pm_device.specs.Effect.{Event, Hearing, Restarted}
use Rattle.pm_tool.specs.declared.script.line.LineEvent.{LineEvent}
use Rattle.pm_tool.specs.declared.script.line.LineEvent.TheVariants.{Frame, Restart}

abbrev pub event_of_line : LineEvent → List ℕ → Event
event_of_line (Frame ending) bytes = Hearing bytes ending
event_of_line Restart bytes = Restarted
