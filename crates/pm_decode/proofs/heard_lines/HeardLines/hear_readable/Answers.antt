use Rattle.std.proofs.Common.{◌≡◌, ◌∙◌, ◌++◌, Ok, ap, codes, string_bytes}
use Rattle.pm_decode.specs.Readings.{Told}
use Rattle.pm_decode.specs.ShownReadings.{packet_in}
use Rattle.pm_decode.specs.CaptureText.{line_text, read_line}
use Rattle.pm_decode.specs.Hearing.{HeardLines, Known, heard_told, line_heard_with}
use Rattle.pm_decode.proofs.Captures.{line_told, on_good, seen_told}
use Rattle.pm_decode.proofs.heard_lines.HeardLines.hear_readable.Goals as goal

pub returns-in-None-clause-text : goal.returns-in-None-clause-text
returns-in-None-clause-text c =
    let options = c.args.options.now in
    let line = c.args.line.now in
    let parts = packet_in line.packet in
    let before = string_bytes c.args.text.now in
    on_good c.hear_packet.result
    (λ (e : string_bytes c.hear_packet.new.text ++ codes "\n"
    ≡ before ++ read_line options c.special.new.self line.number line.time (Ok parts)). e
    ∙ ap (λ (k : Known). before ++ read_line options k line.number line.time (Ok parts)) c.in-None.ensures.noted
    ∙ ap (λ l. before ++ l) (line_told options c.args.self.now line.number line.time parts c.self.inside.known c.in-None.ensures.special)
    ∙ ap (λ (h : HeardLines). before ++ line_text options h.known (line.number, Told (record { time = line.time; parts = Ok parts })))
    c.self.view_is)
    c.hear_packet.ensures.text

pub returns-in-None-clause-heard : goal.returns-in-None-clause-heard
returns-in-None-clause-heard c =
    let options = c.args.options.now in
    let line = c.args.line.now in
    let parts = packet_in line.packet in
    let inside = c.self.inside in
    let with_known : Known → HeardLines = λ k. record {
      known = k;
      counts = inside.tally;
      others = inside.others;
      refused = inside.refused;
      special = inside.special;
    } in
    on_good c.hear_packet.result
    (λ (e : c.hear_packet.new.self
    ≡ heard_told options line.number (record { time = line.time; parts = Ok parts }) (with_known c.special.new.self)). e
    ∙ ap (λ (k : Known). heard_told options line.number (record { time = line.time; parts = Ok parts }) (with_known k))
    c.in-None.ensures.noted
    ∙ seen_told options (with_known inside.known) line.number line.time parts c.in-None.ensures.special
    ∙ ap (λ (h : HeardLines). line_heard_with options h (line.number, Told (record { time = line.time; parts = Ok parts }))) c.self.view_is)
    c.hear_packet.ensures.heard
