-- The line of a usual packet if no option changes what is shown: a good one that carries at most two bytes, and teaches
-- nothing.
use Rattle.std.specs.Prelude.{◌≡◌, ℕ, ◌+◌, Bool, true, false, not, ◌||◌, List, [], ◌++◌, codes, Some, None}
use Rattle.pm_frame.specs.Layout.{payload_bytes}
use Rattle.pm_lines.specs.Numbers.{hex_byte}
use Rattle.pm_trace.specs.Otherwise.{is_accepted}
use Rattle.pm_table.specs.Commands.{name_of}
use Rattle.pm_trace.specs.Counts.{Counts, one_counted, one_more}
use Rattle.pm_trace.specs.Trace.{Judged}
use Rattle.pm_trace.specs.TraceText.{judged_text, page_text, payload_text}
use Rattle.pm_trace.specs.Taught.{Taught, taught_by}
use Rattle.pm_decode.specs.declared.options.TellOptions.{TellOptions}
use Rattle.pm_decode.specs.declared.usual_line.Usual.{Usual}

-- what is carried: by an answer, or by a write
abbrev pub carried_text : Bool → List ℕ → List ℕ
carried_text true payload = payload_text [] (Some payload)
carried_text false payload = payload_text payload None

-- what the line says after its number
abbrev pub usual_text : Usual → List ℕ
usual_text usual = hex_byte usual.addr ++ (codes " " ++ (page_text usual.page
    ++ (name_of usual.code ++ carried_text usual.is_read (payload_bytes usual.payload))))

-- a good packet of this code is counted
abbrev pub code_counted : Counts → ℕ → Counts
code_counted counts code = record counts { accepted = counts.accepted + 1; codes = one_more counts.codes code }

-- what a packet says is this usual one: its line's text, that nothing is taught, how it is counted, and that it is good
pub record IsUsual (usual : Usual) (judged : Judged) : Type 0 where
  pub text : (number : ℕ) → judged_text number judged ≡ usual_text usual
  pub taught : (number : ℕ) (taught : Taught) → taught_by number None taught judged ≡ taught
  pub counted : (counts : Counts) → one_counted counts judged ≡ code_counted counts usual.code
  pub good : is_accepted judged ≡ true
