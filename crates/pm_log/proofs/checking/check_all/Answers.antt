use Rattle.std.proofs.Common.{◌≡◌, ◌∙◌, [], ap, sym}
use Rattle.std.proofs.lemmas.Result.{err_from_is_err_and}
use Rattle.pm_lines.specs.Engine.{over}
use Rattle.pm_log.specs.Texts.{Kept, ended_text, last_line_ended, log_end, log_text}
use Rattle.pm_log.specs.Verdicts.{log_end_of, verdict_text}
use Rattle.pm_log.specs.declared.checking.LogEnd.TheVariants.{Refused}
use Rattle.pm_log.proofs.Texts.{empty_end, all_said, front_said, all_now, none_now, room_now, finished_is}
use Rattle.pm_log.proofs.checking.check_all.Goals as goal

pub returns-in_err-put : goal.returns-in_err-put
returns-in_err-put g c =
    let p = err_from_is_err_and c.from_residual-in_err-put.result c.from_residual-in_err-put.ensures.1 in
    let (read, input, taken, at_end) = c.in_ok-take_all.ensures.all in
    let old = c.take_all.new.log in
    let empty : input ≡ [] = none_now _ _ _ input old taken (sym c.taken.ensures ∙ c.if-taken-eq0.true) in
    let shown = c.as_bytes.ensures.value ∙ c.empty_verdict.ensures c.args.allowed.now.parts ∙ ap (log_text c.args.allowed.now.parts) (sym empty) in
    rw (p.1, p.2, c.in_err-put.ensures.fault) (front_said c.args.allowed.now.parts (over g.R.Read.remaining c.args.reader.now c.take_all.new.reader
    g.W.Write.contents c.args.writer.now c.put.new.self) read c.in_err-put.ensures.failed input c.as_bytes.result.now
    (all_now _ _ _ input old taken at_end) shown c.in_err-put.ensures.front)

pub returns-then-taken-eq0 : goal.returns-then-taken-eq0
returns-then-taken-eq0 g c =
    let (read, input, taken, at_end) = c.in_ok-take_all.ensures.all in
    let old = c.take_all.new.log in
    let empty : input ≡ [] = none_now _ _ _ input old taken (sym c.taken.ensures ∙ c.if-taken-eq0.true) in
    let shown = c.as_bytes.ensures.value ∙ c.empty_verdict.ensures c.args.allowed.now.parts ∙ ap (log_text c.args.allowed.now.parts) (sym empty) in
    all_said c.args.allowed.now.parts (over g.R.Read.remaining c.args.reader.now c.take_all.new.reader
    g.W.Write.contents c.args.writer.now c.put.new.self) read c.in_ok-put.ensures.failed input c.as_bytes.result.now Refused
    (all_now _ _ _ input old taken at_end) (empty_end c.args.allowed.now.parts ∙ ap (log_end c.args.allowed.now.parts) (sym empty)) shown c.in_ok-put.ensures.all

pub verdict-requires : goal.verdict-requires
verdict-requires g c =
    let (read, input, taken, at_end) = c.in_ok-take_all.ensures.all in
    room_now _ _ _ input c.take_all.new.log taken

pub returns-in_err-put-2 : goal.returns-in_err-put-2
returns-in_err-put-2 g c =
    let p = err_from_is_err_and c.from_residual-in_err-put-2.result c.from_residual-in_err-put-2.ensures.1 in
    let (read, input, taken, at_end) = c.in_ok-take_all.ensures.all in
    let old = c.take_all.new.log in
    let shown = c.as_bytes-2.ensures.value ∙ c.in_ok-text.ensures.text
    ∙ ap (λ (k : Kept). verdict_text (ended_text (last_line_ended k))) taken.kept_is
    ∙ ap verdict_text (finished_is c.args.allowed.now.parts input) in
    rw (p.1, p.2, c.in_err-put-2.ensures.fault) (front_said c.args.allowed.now.parts (over g.R.Read.remaining c.args.reader.now c.take_all.new.reader
    g.W.Write.contents c.args.writer.now c.put-2.new.self) read c.in_err-put-2.ensures.failed input c.as_bytes-2.result.now
    (all_now _ _ _ input old taken at_end) shown c.in_err-put-2.ensures.front)

pub returns : goal.returns
returns g c =
    let (read, input, taken, at_end) = c.in_ok-take_all.ensures.all in
    let old = c.take_all.new.log in
    let kept = ap (λ (k : Kept). ended_text (last_line_ended k)) taken.kept_is ∙ finished_is c.args.allowed.now.parts input in
    let shown = c.as_bytes-2.ensures.value ∙ c.in_ok-text.ensures.text ∙ ap verdict_text kept in
    all_said c.args.allowed.now.parts (over g.R.Read.remaining c.args.reader.now c.take_all.new.reader
    g.W.Write.contents c.args.writer.now c.put-2.new.self) read c.in_ok-put-2.ensures.failed input c.as_bytes-2.result.now
    c.end_of.result (all_now _ _ _ input old taken at_end) (c.end_of.ensures ∙ ap log_end_of (c.in_ok-text.ensures.end ∙ kept)) shown
    c.in_ok-put-2.ensures.all
