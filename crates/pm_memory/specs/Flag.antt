-- A flag in memory. This project's own choice.
use Rattle.std.specs.Prelude.{ℕ, Bool, if◌then◌else◌}

-- a flag is 1 or 0
abbrev pub flag : Bool → ℕ
flag b = if b then 1 else 0
