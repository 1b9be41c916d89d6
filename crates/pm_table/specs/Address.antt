-- Which bytes are a device's address.
use Rattle.std.specs.Prelude.{ℕ, ◌≤◌}

-- A seven-bit address that this project takes for a device: 08h to 77h. SMBus reserves the others.
abbrev pub IsAddress : ℕ → Type 0
IsAddress addr = (0x08 ≤ addr) × (addr ≤ 0x77)
