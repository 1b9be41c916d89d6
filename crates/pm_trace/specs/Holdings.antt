-- How a decoder keeps what callers see of it.
use Rattle.std.specs.Prelude.{◌≡◌, ℕ, ◌+◌, ◌≤◌, true, false, if◌then◌else◌, List, [], ◌∷◌, ◌++◌, length, Option, Some, None}
use Rattle.std.specs.List.{fold, list_any}
use Rattle.pm_lines.specs.Lines.{is_line_feed}
use Rattle.pm_lines.specs.Streams.{max_text}
use Rattle.pm_trace.specs.declared.decoder.Decoder.TheInside.{Inside}
use Rattle.pm_trace.specs.declared.decoder.intake.Intake.{Intake}
use Rattle.pm_trace.specs.declared.decoder.intake.Intake.TheVariants.{Open, Finished, Failed}
use Rattle.pm_trace.specs.declared.fed.Fed.{Fed}
use Rattle.pm_trace.specs.Counts.{lines_in}
use Rattle.pm_trace.specs.Decoding.{Holding, Kept, first_line}
use Rattle.pm_trace.specs.OpenLines.{open_line_of, line_takes, is_skipped_kind, open_judged}
use Rattle.pm_trace.specs.Trace.{ToldLine}

-- the line that is shown is no part of what goes on, though its bytes are kept
abbrev pub kept_in_decoder : Inside → Kept
kept_in_decoder d = record {
  taken = d.taken;
  ended = d.ended;
  counts = d.tally;
  line = if d.is_shown then open_line_of [] else d.line;
}

abbrev pub shown_in : Inside → Option ToldLine
shown_in d = if d.is_shown then Some (d.ended, open_judged d.line) else None

abbrev pub holding_in : Inside → Holding
holding_in d = record { kept = kept_in_decoder d; shown = shown_in d; intake = d.intake }

-- no more lines are counted than ended, and no more end than bytes were taken, and this many more
pub record IsBounded (more : ℕ) (kept : Kept) : Type 0 where
  pub counted : lines_in kept.counts ≤ kept.ended
  pub ended : kept.ended ≤ kept.taken + more
  pub taken : kept.taken ≤ max_text

-- the end of all bytes may end one line more, and after a refusal no line ends
abbrev pub lines_at_end : Intake → ℕ
lines_at_end Open = 0
lines_at_end Finished = 1
lines_at_end (Failed fault) = 1

-- a line that is shown isn't skipped
pub record IsSound (d : Inside) : Type 0 where
  pub unskipped : d.is_shown ≡ true → is_skipped_kind d.line.kind ≡ false
  pub bounded : IsBounded (lines_at_end d.intake) (kept_in_decoder d)

-- bytes were taken up to the first line feed, and with it, or all of them; a line that ends with it
-- isn't ended yet
pub record Takes (old : Holding) (bytes : List ℕ) (fed : Fed) (new : Holding) : Type 0 where
  pub front : List ℕ
  pub plain : list_any is_line_feed front ≡ false
  pub line : first_line bytes ≡ front ++ (if fed.ended then 10 ∷ [] else [])
  pub taken : fed.taken ≡ length (first_line bytes)
  pub within : fed.taken ≤ length bytes
  pub holding : new ≡ record old {
    kept = record old.kept {
      taken = old.kept.taken + fed.taken;
      line = fold line_takes old.kept.line front;
    };
  }
