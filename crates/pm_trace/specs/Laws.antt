-- The laws of the decoder, of lists of any length, and of values of any size.
use Rattle.std.specs.Prelude.{◌≡◌, ◌<◌, ℕ, List, ◌++◌, length, flat_map}
use Rattle.std.specs.List.{concat}
use Rattle.pm_num.specs.Ratio.{IsMicroFloor, Ratio}
use Rattle.pm_trace.specs.Counts.{counts_of, lines_in}
use Rattle.pm_trace.specs.Decoding.{Holding, IsFresh, kept_of_bytes, kept_with_bytes, said}
use Rattle.pm_trace.specs.Pieces.{Call, Calls, Decodes, Stops, taken_in}
use Rattle.pm_trace.specs.Trace.{ToldLine, trace_of}
use Rattle.pm_trace.specs.Values.{millionths}

-- How a trace is cut into pieces doesn't matter: the lines that a decoder shows are those of the
-- pieces joined, where nothing is refused, and otherwise the first of them; and it counts what these
-- lines say. What it keeps is a look back over its bytes.
pub record PiecesDoNotMatter : Type 0 where
  pub next : (bytes piece : List ℕ) → kept_of_bytes (bytes ++ piece) ≡ kept_with_bytes (kept_of_bytes bytes) piece
  -- each piece is fed on until it is taken whole; then comes `finish`
  pub lines : (old new : Holding) (pieces : List (List ℕ)) (lines : List ToldLine) → IsFresh old →
      Decodes old pieces lines new → lines ≡ trace_of (concat pieces)
  pub counts : (old new : Holding) (pieces : List (List ℕ)) (lines : List ToldLine) → IsFresh old →
      Decodes old pieces lines new → new.kept.counts ≡ counts_of (trace_of (concat pieces))
  pub total : (lines : List ToldLine) → lines_in (counts_of lines) ≡ length lines
  -- pieces up to a call that is refused: the lines shown are the first that the pieces have
  pub refused : (old new : Holding) (pieces : List (List ℕ)) (lines : List ToldLine) → IsFresh old →
      Stops old pieces lines new → (rest : List ToldLine) × (trace_of (concat pieces) ≡ lines ++ rest)
  -- any calls
  pub so_far : (old new : Holding) (calls : List Call) (lines : List ToldLine) → IsFresh old →
      Calls old calls lines new → lines ≡ said (flat_map taken_in calls)
  pub kept : (old new : Holding) (calls : List Call) (lines : List ToldLine) → IsFresh old →
      Calls old calls lines new → new.kept ≡ kept_of_bytes (flat_map taken_in calls)
  pub front : (bytes more : List ℕ) → (rest : List ToldLine)
      × (trace_of (bytes ++ more) ≡ said bytes ++ rest)

-- the microvolts that are shown of a voltage are the most that aren't above it
abbrev pub MicrovoltsAreTheFloor : Type 0
MicrovoltsAreTheFloor = (value : Ratio) → 0 < value.den → IsMicroFloor value (millionths value)
