use Rattle.std.proofs.Common.{◌++◌, ◌∙◌, ap, codes, string_bytes, append_assoc}
use Rattle.std.specs.Prelude.{decimal}
use Rattle.pm_lines.specs.Numbers.{hex_byte}
use Rattle.pm_trace.specs.TraceText.{asked_text}
use Rattle.pm_trace.proofs.shown_text.push_asked.Goals as goal

pub returns : goal.returns
unfolding asked_text
returns c =
    c.in_ok-push_decimal.ensures ∙ ap (λ n. string_bytes c.push_str-2.new.self ++ decimal n) c.from.ensures
    ∙ ap (λ t. t ++ decimal c.args.side) (c.in_ok-push_str-2.ensures.bytes
    ∙ ap (λ t. t ++ codes " side ") (c.in_ok-push_hex.ensures ∙ ap (λ t. t ++ hex_byte c.args.code) c.in_ok-push_str.ensures.bytes))
    ∙ simp append_assoc
