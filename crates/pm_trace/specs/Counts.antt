-- How many lines of a trace were taken, were faulty and were bad, and how often each code was
-- carried. This project's own choice.
use Rattle.std.specs.Prelude.{◌≡◌, ℕ, ◌+◌, Bool, true, false, ◌==◌, if◌then◌else◌, List, [], ◌∷◌, Option, Some, None}
use Rattle.std.specs.List.{count_by, filter_map, fold, list_any}
use Rattle.pm_frame.specs.View.{message_code}
use Rattle.pm_trace.specs.Trace.{Judged, Accepted, Faulty, BadSyntax, BadHex, ToldLine}

-- the lines of each kind, and the codes of those that were accepted, in the order of their first
-- appearance, each with the number of its lines
pub record Counts : Type 0 where
  pub accepted : ℕ
  pub faults : ℕ
  pub bad : ℕ
  pub codes : List (ℕ × ℕ)

-- the lines of all kinds
abbrev pub lines_in : Counts → ℕ
lines_in counts = counts.accepted + counts.faults + counts.bad

abbrev pub is_line_accepted : ToldLine → Bool
is_line_accepted (number, Accepted addr message answer) = true
is_line_accepted (number, Faulty addr read fault) = false
is_line_accepted (number, BadSyntax) = false
is_line_accepted (number, BadHex) = false

abbrev pub is_faulty : ToldLine → Bool
is_faulty (number, Accepted addr message answer) = false
is_faulty (number, Faulty addr read fault) = true
is_faulty (number, BadSyntax) = false
is_faulty (number, BadHex) = false

abbrev pub is_bad : ToldLine → Bool
is_bad (number, Accepted addr message answer) = false
is_bad (number, Faulty addr read fault) = false
is_bad (number, BadSyntax) = true
is_bad (number, BadHex) = true

-- the code that an accepted line carries; 30h where coefficients are read
abbrev pub code_told : ToldLine → Option ℕ
code_told (number, Accepted addr message answer) = Some (message_code message)
code_told (number, Faulty addr read fault) = None
code_told (number, BadSyntax) = None
code_told (number, BadHex) = None

-- one more of a code: at its place, or at the end where it is new
abbrev pub one_more : List (ℕ × ℕ) → ℕ → List (ℕ × ℕ)
one_more [] code = (code, 1) ∷ []
one_more (entry ∷ entries) code =
    if code == entry.0 then (entry.0, entry.1 + 1) ∷ entries else entry ∷ one_more entries code

-- the numbers of all codes together
abbrev pub total_of : List (ℕ × ℕ) → ℕ
total_of [] = 0
total_of (entry ∷ entries) = entry.1 + total_of entries

-- each code once, in the order of first appearance, with its number
abbrev pub counted : List ℕ → List (ℕ × ℕ)
counted codes = fold one_more [] codes

unfoldable pub counts_of : List ToldLine → Counts
counts_of lines = record {
  accepted = count_by is_line_accepted lines;
  faults = count_by is_faulty lines;
  bad = count_by is_bad lines;
  codes = counted (filter_map code_told lines);
}

-- one line more
abbrev pub one_counted : Counts → Judged → Counts
one_counted counts (Accepted addr message answer) = record counts {
  accepted = counts.accepted + 1;
  codes = one_more counts.codes (message_code message);
}
one_counted counts (Faulty addr read fault) = record counts { faults = counts.faults + 1 }
one_counted counts BadSyntax = record counts { bad = counts.bad + 1 }
one_counted counts BadHex = record counts { bad = counts.bad + 1 }

-- one line more, where it isn't skipped
abbrev pub counts_with : Counts → Option ToldLine → Counts
counts_with counts None = counts
counts_with counts (Some told) = one_counted counts told.1

-- the code was counted before
abbrev pub has_code : List (ℕ × ℕ) → ℕ → Bool
has_code entries code = list_any (λ entry. code == entry.0) entries

-- a line with a code that isn't among those counted
abbrev pub IsNewCode : Counts → Judged → Type 0
IsNewCode counts (Accepted addr message answer) =
    has_code counts.codes (message_code message) ≡ false
IsNewCode counts (Faulty addr read fault) = ⊥
IsNewCode counts BadSyntax = ⊥
IsNewCode counts BadHex = ⊥
