-- No payload of the command table is longer than two bytes.
use Rattle.std.proofs.Common.{ℕ, ◌≤◌, leb, refl, Option, lit≤}
use Rattle.std.proofs.lemmas.Bool.{leb-true}
use Rattle.std.specs.Option.{option_map_or}
use Rattle.pm_table.specs.Commands.{Line, rows, line_of, payload_length}
use Rattle.pm_table.specs.Lemmas.{line_among-each}

-- a line, or none, with a payload of two bytes at most
abbrev IsShort : Option Line → Type 0
IsShort line = option_map_or (λ l. l.length) line 0 ≤ 2

-- no payload in the table is longer than two bytes
pub payload_length-short : (code : ℕ) → payload_length code ≤ 2
unfolding line_of
payload_length-short code =
    line_among-each IsShort (λ line. leb line.length 2) (lit≤ tt) (λ line h. leb-true line.length 2 h) rows code refl
