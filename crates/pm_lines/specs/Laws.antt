-- The laws by name. This project's own choice.
use Rattle.std.specs.Prelude.{◌≡◌, Result, IfSome}
use Rattle.pm_lines.specs.Engine.{Engine, EngineEnds, IsSettled, Run, engine_outcome}
use Rattle.pm_lines.specs.declared.fault.TextFault.{TextFault}

-- How an engine ends follows from the bytes that its reader has, however the reader cuts them, unless a stream
-- failed or memory was refused.
abbrev pub EndsFollowTheInput : (R W T : Type 0) → Type 0
EndsFollowTheInput R W T = (engine : Engine T) (run : Run R W) (result : Result T TextFault)
    → EngineEnds engine run result → IsSettled result
    → IfSome (run.remaining run.reader.inner) (λ input. result ≡ engine_outcome engine input)
