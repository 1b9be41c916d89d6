use Rattle.std.proofs.Common.{◌≡◌, ◌∙◌, ◌++◌, [], sym, ap}
use Rattle.std.proofs.lemmas.Result.{err_from_is_err_and}
use Rattle.pm_lines.specs.Engine.{over}
use Rattle.pm_decode.specs.CaptureText.{capture_text, counts_text}
use Rattle.pm_decode.specs.Capturing.{capture_at_end, told_at_capture_end}
use Rattle.pm_decode.proofs.Captures.{all_told, text_cut, unmade, whole_input, end_all, end_front, end_counts, end_memory, none_all}
use Rattle.pm_decode.proofs.Captures.{none_front, none_end}
use Rattle.pm_decode.proofs.telling.tell_all.Goals as goal

pub returns-in_err-put-clause-ends : goal.returns-in_err-put-clause-ends
returns-in_err-put-clause-ends g c =
    let p = err_from_is_err_and c.from_residual-in_err-put.result c.from_residual-in_err-put.ensures.1 in
    let options = c.args.options.now in
    let (read, sound, empty, input, written, at_end) = c.in_ok-hear_pieces.ensures.ok in
    let old = c.hear_pieces.new.capture in
    let none = sym c.taken.ensures ∙ c.if-taken-eq0.true in
    let shown : c.as_bytes.result.now ≡ capture_text options [] = c.as_bytes.ensures.value ∙ c.empty_text.ensures in
    rw (p.1, p.2, c.in_err-put.ensures.fault) (text_cut options (over g.R.Read.remaining c.args.reader.now c.hear_pieces.new.reader
    g.W.Write.contents c.args.writer.now c.put.new.self) read c.in_err-put.ensures.failed input
    (whole_input options _ _ _ _ (g.W.Write.contents c.hear_pieces.new.writer.inner) input old written at_end)
    (none_front options _ _ _ _ _ input old written none _ shown c.in_err-put.ensures.front))

pub returns-then-taken-eq0-clause-ends : goal.returns-then-taken-eq0-clause-ends
returns-then-taken-eq0-clause-ends g c =
    let options = c.args.options.now in
    let (read, sound, empty, input, written, at_end) = c.in_ok-hear_pieces.ensures.ok in
    let old = c.hear_pieces.new.capture in
    let none = sym c.taken.ensures ∙ c.if-taken-eq0.true in
    let shown : c.as_bytes.result.now ≡ capture_text options [] = c.as_bytes.ensures.value ∙ c.empty_text.ensures in
    all_told options (over g.R.Read.remaining c.args.reader.now c.hear_pieces.new.reader
    g.W.Write.contents c.args.writer.now c.put.new.self) read c.in_ok-put.ensures.failed input _
    (whole_input options _ _ _ _ (g.W.Write.contents c.hear_pieces.new.writer.inner) input old written at_end)
    (none_all options _ _ _ _ _ input old written none _ shown c.in_ok-put.ensures.all)
    (none_end options _ _ _ _ (g.W.Write.contents c.hear_pieces.new.writer.inner) input old written none)

pub returns-in_err-tell_end-clause-ends : goal.returns-in_err-tell_end-clause-ends
returns-in_err-tell_end-clause-ends g c =
    let p = err_from_is_err_and c.from_residual-in_err-tell_end.result c.from_residual-in_err-tell_end.ensures.1 in
    let options = c.args.options.now in
    let (read, sound, empty, input, written, at_end) = c.in_ok-hear_pieces.ensures.ok in
    rw (p.1, p.2) (unmade options (over g.R.Read.remaining c.args.reader.now c.hear_pieces.new.reader
    g.W.Write.contents c.args.writer.now c.hear_pieces.new.writer) read sound
    (end_memory options _ _ _ _ (g.W.Write.contents c.hear_pieces.new.writer.inner) input c.hear_pieces.new.capture written
    (λ e. c.if-taken-eq0.false (c.taken.ensures ∙ e))))

pub returns-in_err-put-2-clause-ends : goal.returns-in_err-put-2-clause-ends
returns-in_err-put-2-clause-ends g c =
    let p = err_from_is_err_and c.from_residual-in_err-put-2.result c.from_residual-in_err-put-2.ensures.1 in
    let options = c.args.options.now in
    let (read, sound, empty, input, written, at_end) = c.in_ok-hear_pieces.ensures.ok in
    let old = c.hear_pieces.new.capture in
    let rest = told_at_capture_end old ++ counts_text old.options (capture_at_end old).heard in
    let shown : c.bytes.result.now ≡ rest = c.bytes.ensures ∙ c.in_ok-tell_end.ensures.told ∙ ap (λ l. l ++ rest) empty in
    rw (p.1, p.2, c.in_err-put-2.ensures.fault) (text_cut options (over g.R.Read.remaining c.args.reader.now c.hear_pieces.new.reader
    g.W.Write.contents c.args.writer.now c.put-2.new.self) read c.in_err-put-2.ensures.failed input
    (whole_input options _ _ _ _ (g.W.Write.contents c.hear_pieces.new.writer.inner) input old written at_end)
    (end_front options _ _ _ _ _ input old written _ shown c.in_err-put-2.ensures.front))

pub returns-clause-ends : goal.returns-clause-ends
returns-clause-ends g c =
    let options = c.args.options.now in
    let (read, sound, empty, input, written, at_end) = c.in_ok-hear_pieces.ensures.ok in
    let old = c.hear_pieces.new.capture in
    let rest = told_at_capture_end old ++ counts_text old.options (capture_at_end old).heard in
    let shown : c.bytes.result.now ≡ rest = c.bytes.ensures ∙ c.in_ok-tell_end.ensures.told ∙ ap (λ l. l ++ rest) empty in
    all_told options (over g.R.Read.remaining c.args.reader.now c.hear_pieces.new.reader
    g.W.Write.contents c.args.writer.now c.put-2.new.self) read c.in_ok-put-2.ensures.failed input _
    (whole_input options _ _ _ _ (g.W.Write.contents c.hear_pieces.new.writer.inner) input old written at_end)
    (end_all options _ _ _ _ _ input old written _ shown c.in_ok-put-2.ensures.all)
    (end_counts options _ _ _ _ (g.W.Write.contents c.hear_pieces.new.writer.inner) input old written
    c.tell_end.new.capture _ c.in_ok-tell_end.ensures.kept c.end.ensures)
