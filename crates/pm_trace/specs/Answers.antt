-- How a packet was received, and what an answer of nothing but FFh is taken for: an open bus reads as ones, as a register does that
-- holds them. What decides
-- is this project's own choice.
use Rattle.std.specs.Prelude.{ℕ, ◌+◌, ◌-◌, ◌/◌, Bool, true, false, not, ◌&&◌, ◌||◌, ◌==◌, nat_eq, nat_le, nat_lt, if◌then◌else◌, is_some, List, [], ◌∷◌, drop, length, slice_index, unwrap_or, Option, Some, None}
use Rattle.std.specs.Map.{lookup}
use Rattle.indexmap.specs.IndexMap.{insert_entry}
use Rattle.pm_trace.specs.Modes.{key_of}
use Rattle.pm_table.specs.Codes as command
use Rattle.pm_trace.specs.Otherwise.{is_all_ones, lacks_pec}
use Rattle.pm_trace.specs.declared.answers.Ones.{Ones}
use Rattle.pm_trace.specs.declared.answers.Ones.TheVariants as ones
use Rattle.pm_trace.specs.declared.answers.WrittenOnes.{WrittenOnes}

-- the addresses that sent a right PEC, what was written last to each code of each address since one was written with FFh, and the
-- codes that each address answered, or took
pub record Answers : Type 0 where
  pub checked : List (ℕ × Bool)
  pub written : List (ℕ × WrittenOnes)
  pub answered : List (ℕ × Bool)

abbrev pub none_heard : Answers
none_heard = record { checked = []; written = []; answered = [] }

-- ---- what is heard

-- how many of the first bytes are FFh
abbrev pub leading_ones : List ℕ → ℕ
leading_ones [] = 0
leading_ones (byte ∷ bytes) = if byte == 0xFF then leading_ones bytes + 1 else 0

-- what a write has after the code
abbrev pub written_ones : List ℕ → WrittenOnes
written_ones part = record { ones = leading_ones part; bytes = length part }

-- the code that a write carries, and its bytes
abbrev pub written_part : List ℕ → ℕ × List ℕ
written_part (addr ∷ code ∷ count ∷ page ∷ carried ∷ bytes) =
    if code == command.page_plus_write then (carried, bytes) else (code, count ∷ page ∷ carried ∷ bytes)
written_part write = (slice_index write 1, drop 2 write)

-- a write that doesn't begin with FFh counts if one did before
abbrev pub part_written : ℕ → ℕ × List ℕ → Answers → Answers
part_written addr part answers = if nat_lt 0 (leading_ones part.1) || nat_lt 0 (length answers.written)
    then record answers { written = insert_entry nat_eq answers.written (key_of addr part.0) (written_ones part.1) } else answers

-- an address answers; `checked` is whether the PEC is right
abbrev pub checked_at : ℕ → Bool → Answers → Answers
checked_at addr checked answers = if checked && not (is_some (lookup (nat_eq addr) answers.checked))
    then record answers { checked = insert_entry nat_eq answers.checked addr true } else answers

-- what is known after a clear packet
abbrev pub answers_by : List ℕ → Option (List ℕ) → Bool → Answers → Answers
answers_by write None checked answers = part_written (slice_index write 0 / 2) (written_part write) answers
answers_by write (Some read) checked answers = checked_at (slice_index write 0 / 2) checked answers

-- an address answered a code, or took it
abbrev pub has_answered : Answers → List ℕ → Bool
has_answered answers write = is_some (lookup (nat_eq (key_of (slice_index write 0 / 2) (slice_index write 1))) answers.answered)

abbrev pub answered_by : List ℕ → Answers → Answers
answered_by write answers = if has_answered answers write then answers else record answers {
  answered = insert_entry nat_eq answers.answered (key_of (slice_index write 0 / 2) (slice_index write 1)) true;
}

-- ---- what it is taken for

-- this many ones are what was written last, but for a last byte that may be its PEC
abbrev pub is_written_back : Option WrittenOnes → ℕ → Bool
is_written_back None count = false
is_written_back (Some written) count = nat_le count written.ones
    && (nat_le count written.bytes && nat_le (written.bytes - count) 1)

-- they are nobody's if the address sends right PECs, and this answer doesn't lack just its PEC, as another host would take it
abbrev pub ones_at : Answers → ℕ → ℕ → ℕ → Bool → Ones
ones_at answers addr code count lacks = if is_written_back (lookup (nat_eq (key_of addr code)) answers.written) count then ones.Answer
    else (if is_some (lookup (nat_eq addr) answers.checked) && not lacks then ones.Nobody else ones.Doubtful)

-- the answer of a packet
abbrev pub ones_of : Answers → List ℕ → Option (List ℕ) → Ones
ones_of answers write read = if is_all_ones write read then ones_at answers (slice_index write 0 / 2) (slice_index write 1)
    (length (drop 1 (unwrap_or read []))) (lacks_pec ones.Answer write read) else ones.Answer
