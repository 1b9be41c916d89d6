-- What is done with what the parser says in place of a choice, and the status that goes with it. This project's
-- own choice.
use Rattle.std.specs.Prelude.{◌≡◌, ℕ, Bool, true, ◌||◌, ◌==◌, not, List, string_bytes, ⊤}
use Rattle.std.specs.List.{list_any}
use Rattle.clap.specs.declared.error.kind.ErrorKind.{ErrorKind}
use Rattle.clap.specs.declared.error.kind.ErrorKind.TheVariants.{DisplayHelp, DisplayVersion, OutOfMemory}
use Rattle.pm_lines.specs.Lines.{EndsLine}
use Rattle.pm_tool.specs.declared.usage.Usage.{Usage}
use Rattle.pm_tool.specs.declared.usage.Usage.TheVariants.{Shown, Misused, NoMemory}

-- the status of a refusal of this kind
abbrev pub usage_status : ErrorKind → ℕ
usage_status OutOfMemory = 1
usage_status DisplayHelp = 0
usage_status DisplayVersion = 0
usage_status _ = 2

-- a byte that a person sees: neither a blank, which is a space or a tab, nor a line's end, a line feed or a carriage
-- return
abbrev pub is_seen : ℕ → Bool
is_seen byte = not (byte == 32 || byte == 9 || byte == 10 || byte == 13)

-- a text that says something to a person: it ends its line, and has a byte that is seen
abbrev pub IsSaid : List ℕ → Type 0
IsSaid text = EndsLine text × (list_any is_seen text ≡ true)

-- help and the version are shown, any other text is said of a misuse; each says something
abbrev pub IsUsage : ErrorKind → Usage → Type 0
IsUsage kind (Shown text) = (usage_status kind ≡ 0) × IsSaid (string_bytes text)
IsUsage kind (Misused text) = (usage_status kind ≡ 2) × IsSaid (string_bytes text)
IsUsage kind NoMemory = ⊤
