-- Which bytes of OPERATION are one command: this project's own choice, by the bits that PMBus 1.3 Part II reserves.
use Rattle.std.specs.Prelude.{ℕ, ◌*◌, ◌/◌, ◌%◌, Bool, ◌==◌, if◌then◌else◌}

-- A byte without the bits that don't count: bit 0, which is reserved; and bit 1 where bits 5:4 aren't 11, by which a part follows AVSBus.
unfoldable pub command_of : ℕ → ℕ
command_of byte = if byte / 16 % 4 == 0b11 then byte / 2 * 2 else byte / 4 * 4

-- what is held is the command that is wanted, but for these bits
abbrev pub same_command : ℕ → ℕ → Bool
same_command wanted held = command_of wanted == command_of held
