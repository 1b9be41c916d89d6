-- Which codes WRITE_PROTECT lets a host write (PMBus 1.3 Part II, WRITE_PROTECT), by the last column of the
-- command table: 80h its own code, 40h also OPERATION and PAGE, 20h also VOUT_COMMAND, 00h every code that is
-- written. That CLEAR_FAULTS is always written, and that every code but those named here waits for 00h, is
-- this project's own choice; so status bits are cleared by writing at 00h alone.
use Rattle.std.specs.Prelude.{ℕ, Bool, true, false, ◌||◌, ◌==◌}
use Rattle.std.specs.Option.{option_map_or}
use Rattle.pm_table.specs.declared.protection.Protection.{Protection}
use Rattle.pm_table.specs.declared.protection.Protection.TheVariants.{NotWritten, At00, At20, At40, At80, Always}
use Rattle.pm_table.specs.Commands.{line_of}

-- a code with this protection is written at this value of WRITE_PROTECT; at any that isn't 00h, 20h, 40h or
-- 80h nothing is but what always is
abbrev pub lets_write : Protection → ℕ → Bool
lets_write NotWritten protect = false
lets_write At00 protect = protect == 0x00
lets_write At20 protect = protect == 0x00 || protect == 0x20
lets_write At40 protect = protect == 0x00 || protect == 0x20 || protect == 0x40
lets_write At80 protect = protect == 0x00 || protect == 0x20 || protect == 0x40 || protect == 0x80
lets_write Always protect = true

-- whether the code that a packet means, so that which PAGE_PLUS_WRITE carries, may be written at this value of
-- WRITE_PROTECT
abbrev pub is_allowed : ℕ → ℕ → Bool
is_allowed protect code = option_map_or (λ l. lets_write l.protection protect) (line_of code) false
