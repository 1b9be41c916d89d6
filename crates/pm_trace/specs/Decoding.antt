-- What a decoder keeps of the bytes that it has taken, and what it says of the lines that end:
-- `kept_of_bytes` and `said`, a look back over all its bytes, and `kept_with_bytes` and `told`, what further bytes make
-- of it. This project's own choice.
use Rattle.std.specs.Prelude.{◌≡◌, ℕ, ◌+◌, ◌-◌, Bool, false, ◌&&◌, nat_le, if◌then◌else◌, List, [], ◌∷◌, ◌++◌, length, map, take, filter, Option, Some, None}
use Rattle.std.specs.List.{list_any, fold, enumerate_from}
use Rattle.pm_lines.specs.declared.fault.TextFault.{TextFault}
use Rattle.pm_lines.specs.declared.fault.TextFault.TheVariants.{TooLong}
use Rattle.pm_lines.specs.Streams.{max_text}
use Rattle.pm_trace.specs.declared.decoder.intake.Intake.{Intake}
use Rattle.pm_trace.specs.declared.decoder.intake.Intake.TheVariants.{Open, Finished, Failed}
use Rattle.pm_trace.specs.declared.fed.Fed.{Fed}
use Rattle.pm_trace.specs.declared.decoder.open_line.OpenLine.{OpenLine}
use Rattle.pm_lines.specs.Lines.{has_bytes, is_line_feed, is_unskipped, without_return}
use Rattle.pm_trace.specs.Marks.{ended_pieces, since, told_at_marks}
use Rattle.pm_trace.specs.Trace.{ToldLine, told_of_line}
use Rattle.pm_trace.specs.Counts.{Counts, counts_of, counts_with, IsNewCode}
use Rattle.pm_trace.specs.OpenLines.{open_line_of, line_takes, is_begun, is_skipped_kind, open_judged}

-- ---- the bytes taken

-- how many bytes were taken, how many lines ended, the lines counted that were not skipped, and what
-- is kept of the line that goes on
pub record Kept : Type 0 where
  pub taken : ℕ
  pub ended : ℕ
  pub counts : Counts
  pub line : OpenLine

-- what the lines say that a line feed ended, those that are skipped apart
unfoldable pub said : List ℕ → List ToldLine
said bytes = map told_of_line (filter is_unskipped
    (enumerate_from 1 (map without_return (ended_pieces is_line_feed bytes))))

-- what is kept of these bytes
unfoldable pub kept_of_bytes : List ℕ → Kept
kept_of_bytes bytes = record {
  taken = length bytes;
  ended = length (ended_pieces is_line_feed bytes);
  counts = counts_of (said bytes);
  line = open_line_of (since is_line_feed bytes);
}

-- ---- further bytes

-- what the line says that ends here, where it isn't skipped
abbrev pub line_told : Kept → Option ToldLine
line_told kept = if is_skipped_kind kept.line.kind then None
    else Some (kept.ended + 1, open_judged kept.line)

-- what is kept where a line ends here
abbrev pub line_ended : Kept → Kept
line_ended kept = record {
  taken = kept.taken;
  ended = kept.ended + 1;
  counts = counts_with kept.counts (line_told kept);
  line = open_line_of [];
}

abbrev pub some_told : Option ToldLine → List ToldLine
some_told None = []
some_told (Some told) = told ∷ []

-- one byte more
unfoldable pub kept_takes : Kept → ℕ → Kept
kept_takes kept byte = if is_line_feed byte
    then record (line_ended kept) { taken = kept.taken + 1 }
    else record kept { taken = kept.taken + 1; line = line_takes kept.line byte }

-- further bytes
abbrev pub kept_with_bytes : Kept → List ℕ → Kept
kept_with_bytes kept bytes = fold kept_takes kept bytes

-- what the lines say that end within further bytes
abbrev pub told : Kept → List ℕ → List ToldLine
told kept bytes = told_at_marks is_line_feed kept_takes (λ kept. some_told (line_told kept)) kept bytes

-- the end of all bytes, which ends a line that has some
abbrev pub kept_at_end : Kept → Kept
kept_at_end kept = if is_begun kept.line then line_ended kept else kept

abbrev pub told_at_end : Kept → Option ToldLine
told_at_end kept = if is_begun kept.line then line_told kept else None

-- ---- the calls of a decoder

-- what callers see of a decoder: what it keeps of the bytes that it took, the line that its last
-- call ended, where that isn't skipped, and whether it takes more
pub record Holding : Type 0 where
  pub kept : Kept
  pub shown : Option ToldLine
  pub intake : Intake

-- a decoder that took no byte
pub record IsFresh (holding : Holding) : Type 0 where
  pub kept : holding.kept ≡ kept_of_bytes []
  pub shown : holding.shown ≡ None
  pub intake : holding.intake ≡ Open

-- bytes up to the first line feed, and with it
abbrev pub first_line : List ℕ → List ℕ
first_line [] = []
first_line (byte ∷ bytes) = if is_line_feed byte then byte ∷ [] else byte ∷ first_line bytes

-- the bytes that one call takes of a piece: up to the first line feed, with it, and no more than a
-- text may have
abbrev pub taken_by_intake : Intake → Kept → List ℕ → List ℕ
taken_by_intake Open kept piece = first_line (take (max_text - kept.taken) piece)
taken_by_intake Finished kept piece = []
taken_by_intake (Failed fault) kept piece = []

abbrev pub taken_from_piece : Holding → List ℕ → List ℕ
taken_from_piece holding piece = taken_by_intake holding.intake holding.kept piece

-- the refusal that a piece meets, before any of its bytes is taken: X3 for a byte past the most that
-- a text may have, and the refusal of a decoder that failed
abbrev pub refusal_by_intake : Intake → Kept → List ℕ → Option TextFault
refusal_by_intake Open kept piece =
    if has_bytes piece && nat_le max_text kept.taken then Some TooLong else None
refusal_by_intake Finished kept piece = None
refusal_by_intake (Failed fault) kept piece = Some fault

abbrev pub refusal_of_piece : Holding → List ℕ → Option TextFault
refusal_of_piece holding piece = refusal_by_intake holding.intake holding.kept piece

-- a call takes bytes of a piece
pub record Feeds (old : Holding) (piece : List ℕ) (fed : Fed) (new : Holding) : Type 0 where
  pub taken : fed.taken ≡ length (taken_from_piece old piece)
  pub ended : fed.ended ≡ list_any is_line_feed (taken_from_piece old piece)
  pub kept : new.kept ≡ kept_with_bytes old.kept (taken_from_piece old piece)
  pub shown : some_told new.shown ≡ told old.kept (taken_from_piece old piece)
  pub intake : new.intake ≡ old.intake

-- a decoder that refuses: it shows nothing, counts nothing more, and refuses from then on
pub record Fails (old : Holding) (fault : TextFault) (new : Holding) : Type 0 where
  pub intake : new.intake ≡ Failed fault
  pub shown : new.shown ≡ None
  pub counts : new.kept.counts ≡ old.kept.counts

-- the one line that ends carries a code that wasn't counted before
pub record CarriesNew (counts : Counts) (lines : List ToldLine) : Type 0 where
  pub line : ToldLine
  pub one : lines ≡ line ∷ []
  pub is_new : IsNewCode counts line.1

-- the end of all bytes, by whether more are taken
abbrev pub is_ended_by : Intake → Kept → Bool
is_ended_by Open kept = is_begun kept.line
is_ended_by Finished kept = false
is_ended_by (Failed fault) kept = false

abbrev pub kept_by_intake : Intake → Kept → Kept
kept_by_intake Open kept = kept_at_end kept
kept_by_intake Finished kept = kept
kept_by_intake (Failed fault) kept = kept

abbrev pub told_by_intake : Intake → Kept → Option ToldLine
told_by_intake Open kept = told_at_end kept
told_by_intake Finished kept = None
told_by_intake (Failed fault) kept = None

-- a call ends the bytes
pub record Finishes (old : Holding) (ended : Bool) (new : Holding) : Type 0 where
  pub ended_is : ended ≡ is_ended_by old.intake old.kept
  pub kept : new.kept ≡ kept_by_intake old.intake old.kept
  pub shown : new.shown ≡ told_by_intake old.intake old.kept
  pub intake : new.intake ≡ Finished
