-- PAGE followed through a capture: what is known of the address of a packet as it comes, and what the packet is marked with.
-- What ends a page is this project's own choice.
use Rattle.std.specs.Prelude.{ℕ, Bool, true, false, not, ◌&&◌, ◌||◌, if◌then◌else◌, is_some, length, nat_le, slice_index, List, [], ◌∷◌, Option, Some, None, Result, Ok, Err}
use Rattle.pm_trace.specs.Pages.{Pages, contradicted, is_forbidden, is_paging, lost_in, nowhere, output_by_use, pages_by, phase_of, place_in, touch_of, unclear_use, use_of}
use Rattle.pm_trace.specs.Trace.{Judged, Accepted, Faulty, BadSyntax, BadHex}
use Rattle.pm_trace.specs.declared.line_fault.LineFault.{LineFault}
use Rattle.pm_trace.specs.declared.pages.PageLine.{PageLine}
use Rattle.pm_trace.specs.declared.pages.PageUse.{PageUse}
use Rattle.pm_trace.specs.declared.pages.PageUse.TheVariants.{Written, ReadBack, Failed, Restored, Protects, SetsPhase, Lost, OfOutput, Beside}
use Rattle.pm_trace.specs.declared.pages.Place.{Place}
use Rattle.pm_trace.specs.declared.trace_line.TraceLine.{TraceLine}
use Rattle.pm_trace.specs.Answers.{Answers, has_answered}
use Rattle.pm_trace.specs.Otherwise.{has_pec, ones_are_answer, is_nobody, is_refused}
use Rattle.pm_trace.specs.declared.answers.Ones.{Ones}
use Rattle.pm_trace.specs.Modes.{change_of}
use Rattle.pm_trace.specs.declared.mode_changes.ModeChange.{ModeChange}
use Rattle.pm_trace.specs.declared.mode_changes.ModeChange.TheVariants.{OfNone, OfRestart}
use Rattle.pm_decode.specs.Readings.{is_told, is_without_pec, judged_by, other_address}
use Rattle.pm_decode.specs.declared.comment.ShownPacket.{ShownPacket}
use Rattle.pm_decode.specs.declared.options.TellOptions.{TellOptions}
use Rattle.pm_decode.specs.declared.page_steps.Marks.{Marks}
use Rattle.pm_decode.specs.declared.page_steps.PageStep.{PageStep}

-- ---- a packet as it comes

-- the address of a packet, if it has one
abbrev pub judged_address : Judged → Option ℕ
judged_address (Accepted addr message answer) = Some addr
judged_address (Faulty addr is_read fault) = addr
judged_address BadSyntax = None
judged_address BadHex = None

-- a read part has nothing after its address
abbrev pub is_empty_answer : Option (List ℕ) → Bool
is_empty_answer None = false
is_empty_answer (Some []) = true
is_empty_answer (Some (byte ∷ [])) = true
is_empty_answer (Some (byte ∷ next ∷ bytes)) = false

-- nobody answered: what was read are ones that are taken for nobody's, or no byte
abbrev pub is_unanswered : Ones → TraceLine → Bool
is_unanswered ones parts = is_nobody ones || is_empty_answer parts.read

-- a packet is clear, if it is shown as good or by its code and bytes: somebody answered, or took it
abbrev pub is_received : Ones → TraceLine → Bool
is_received ones parts = ones_are_answer ones && not (is_empty_answer parts.read)

-- nobody answered a code that its address answered before, or took
abbrev pub is_lost : Answers → Ones → TraceLine → Bool
is_lost answers ones parts = is_unanswered ones parts && (nat_le 2 (length parts.write) && has_answered answers parts.write)

-- what is known of an address, if there is one, when a packet comes at a time
abbrev pub place_by : ℕ → Option ℕ → Pages → Option ℕ → Place
place_by gap time pages None = nowhere
place_by gap time pages (Some addr) = place_in gap time pages addr

-- what is known of the address of a packet that says so of its page: of one without a time that says nothing it doesn't matter
abbrev pub place_for : PageUse → ℕ → Option ℕ → Pages → Option ℕ → Place
place_for Beside gap None pages addr = nowhere
place_for Beside gap (Some time) pages addr = place_by gap (Some time) pages addr
place_for Restored gap time pages addr = place_by gap time pages addr
place_for (Protects all) gap time pages addr = place_by gap time pages addr
place_for (SetsPhase number) gap time pages addr = place_by gap time pages addr
place_for OfOutput gap time pages addr = place_by gap time pages addr
place_for Lost gap time pages addr = place_by gap time pages addr
place_for (Written page) gap time pages addr = place_by gap time pages addr
place_for (ReadBack page) gap time pages addr = place_by gap time pages addr
place_for (Failed writes) gap time pages addr = place_by gap time pages addr

-- a part that took or answered a packet of PAGE that isn't clear has PAGE
abbrev pub still_receives : Bool → PageUse → Bool
still_receives received (Failed writes) = received
still_receives received (Written page) = false
still_receives received (ReadBack page) = false
still_receives received Restored = false
still_receives received (Protects all) = false
still_receives received (SetsPhase number) = false
still_receives received Lost = false
still_receives received OfOutput = false
still_receives received Beside = false

abbrev pub heard_if : Bool → Place → Place
heard_if heard place = if heard then record place { heard = true } else place

abbrev pub step_for : ℕ → Option ℕ → Pages → Option ℕ → ℕ → Bool → PageUse → PageStep
step_for gap time pages addr code received used = record {
  addr = addr;
  place = heard_if (still_receives received used) (place_for used gap time pages addr);
  used = used;
  phase = phase_of (place_for used gap time pages addr) code used;
}

-- what a packet says of its page; `other` is the address of one that is shown otherwise, `lost` whether nobody answered what was
-- answered before
abbrev pub used_by : Bool → Ones → TraceLine → Judged → Option ℕ → PageUse
used_by lost ones parts judged other = use_of parts.write (is_some parts.read) (is_received ones parts) lost (is_some other) judged

-- the address of a packet that comes at a time, what is known of it, and what the packet says of its page
abbrev pub page_step_by : ℕ → Option ℕ → Pages → Bool → Ones → TraceLine → Judged → Option ℕ → PageStep
page_step_by gap time pages lost ones parts judged other =
    step_for gap time pages (judged_address judged) (slice_index parts.write 1) (is_received ones parts) (used_by lost ones parts judged other)

-- what is known of PAGE, if PAGE is followed
abbrev pub page_step_of : TellOptions → Pages → Answers → Ones → Option ℕ → TraceLine → Option PageStep
page_step_of options pages answers ones time parts = if options.pages
    then Some (page_step_by options.gap time pages (is_lost answers ones parts)
    ones parts (judged_by options.all ones parts) (other_address options.all ones parts)) else None

-- ---- what it is marked with

-- the page of an address, if that is known and each packet of PAGE since then was good
abbrev pub sure_page_by : Option PageLine → Option ℕ → Option ℕ
sure_page_by None failed = None
sure_page_by (Some said) None = Some said.page
sure_page_by (Some said) (Some line) = None

abbrev pub sure_page : Place → Option ℕ
sure_page place = sure_page_by place.page place.failed

-- the part may have restarted: a packet reads another page than the one that was written last, and `wrong` is the line that it
-- contradicts, or nobody answered what was answered before
abbrev pub is_page_restart : PageUse → Option ℕ → Bool
is_page_restart (ReadBack page) wrong = is_some wrong
is_page_restart Lost wrong = true
is_page_restart (Written page) wrong = false
is_page_restart (Failed writes) wrong = false
is_page_restart Restored wrong = false
is_page_restart (Protects all) wrong = false
is_page_restart (SetsPhase number) wrong = false
is_page_restart OfOutput wrong = false
is_page_restart Beside wrong = false

-- the marks of a packet: how it was received, whether it lacks its PEC, the output that it reaches if it names none, and the line that
-- it contradicts
abbrev pub marks_by : Ones → Bool → Option PageStep → Marks
marks_by ones lacks None = record {
  ones = ones;
  lacks = lacks;
  reached = None;
  wrong = None;
  page = None;
  is_restart = false;
  is_forbidden = false;
  phase = None;
  changed = None;
}
marks_by ones lacks (Some step) = record {
  ones = ones;
  lacks = lacks;
  reached = output_by_use step.place step.used;
  wrong = contradicted step.place step.used;
  page = sure_page step.place;
  is_restart = is_page_restart step.used (contradicted step.place step.used);
  is_forbidden = is_forbidden step.place step.used;
  phase = step.phase;
  changed = None;
}

-- a packet wasn't refused, and is shown as good, or by its code and bytes, or has the right PEC
abbrev pub is_clear : Ones → Option ℕ → Judged → TraceLine → Bool
is_clear ones other judged parts = not (is_refused ones) && (is_told other judged || has_pec parts.write parts.read)

-- What a packet changes that may be a sign of a restart, which counts where it writes no mode itself.
abbrev pub or_restart : Bool → ModeChange → ModeChange
or_restart is_restart OfNone = if is_restart then OfRestart else OfNone
or_restart is_restart change = change

-- the modes that a packet with these marks may change
abbrev pub change_by : Marks → Option ℕ → Judged → TraceLine → ModeChange
change_by marks other judged parts =
    or_restart marks.is_restart (change_of (is_clear marks.ones other judged parts) marks.page (touch_of parts.write (is_some parts.read)))

-- a packet shows that its part has pages
abbrev pub shows_pages : Ones → TraceLine → Bool
shows_pages ones parts = is_paging parts.write (is_some parts.read && is_received ones parts)

abbrev pub packet_marks : TellOptions → Pages → Answers → Ones → Option ℕ → TraceLine → Marks
packet_marks options pages answers ones time parts =
    marks_by ones (is_without_pec options.all ones parts) (page_step_of options pages answers ones time parts)

-- a line that can't be read has no mark
abbrev pub marks_in : TellOptions → Pages → Answers → Ones → Option ℕ → Result TraceLine LineFault → Marks
marks_in options pages answers ones time (Ok parts) = packet_marks options pages answers ones time parts
marks_in options pages answers ones time (Err fault) = marks_by ones false None

-- ---- after it

-- what is known of pages after the packet of a line
abbrev pub pages_at : ℕ → Option PageStep → Pages → Pages
pages_at number None pages = pages
pages_at number (Some step) pages = pages_by number step.addr step.place step.used pages

-- what is known of pages after a line that isn't skipped
abbrev pub pages_read : TellOptions → ℕ → Answers → Ones → Option ℕ → Result TraceLine LineFault → Pages → Pages
pages_read options number answers ones time (Ok parts) pages =
    pages_at number (page_step_of options pages answers ones time parts) pages
pages_read options number answers ones time (Err fault) pages = lost_in number pages

-- ---- a packet that a comment shows

-- nobody answered the packet that a comment shows, whose code its address answered before
abbrev pub is_lost_shown : Answers → ShownPacket → Bool
is_lost_shown answers shown = shown.is_failed_read && has_answered answers (shown.first ∷ shown.code ∷ [])

-- the modes that it may change, none of them surely, and what it says of the page
abbrev pub shown_change : Bool → ShownPacket → ModeChange
shown_change lost shown = or_restart lost (change_of false None shown.touch)

abbrev pub shown_use : Bool → ShownPacket → PageUse
shown_use lost shown = unclear_use shown.touch (if lost then Lost else Beside)
