use Rattle.std.proofs.Common.{◌≡◌, true, ap, sym, ◌∙◌, inl, inr}
use Rattle.pm_trace.specs.OpenLines.{has_slash}
use Rattle.pm_trace.specs.declared.decoder.line_kind.LineKind.TheVariants.{Packet}
use Rattle.pm_trace.proofs.Pieces.{passed_written, passed_read}
use Rattle.pm_trace.proofs.decoder.open_line.OpenLine.take_pairs.Goals as goal

pub returns-in-None : goal.returns-in-None
returns-in-None c =
    passed_written c.args.self.now c.args.bytes.now c.take_pairs.result.now _ (record {
      unreturned = c.if-self.false;
      undigited = sym c.is_some.ensures ∙ c.if-is_some.false;
      takes = sym c.takes_pairs.ensures ∙ c.if-not-takes_pairs.false;
    }) c.in-None.is (ap (λ w. record c.args.self.now { kind = Packet; write = w }) c.take_pairs.ensures.taken)
    c.take_pairs.ensures.rest

pub returns-in-One : goal.returns-in-One
returns-in-One c =
    let some : has_slash c.args.self.now.slashes ≡ true = elim c.in-One.is [ inl one ↦ ap has_slash one | inr more ↦ ap has_slash more ] in
    passed_read c.args.self.now c.args.bytes.now c.take_pairs-in-One.result.now _ (record {
      unreturned = c.if-self.false;
      undigited = sym c.is_some.ensures ∙ c.if-is_some.false;
      takes = sym c.takes_pairs.ensures ∙ c.if-not-takes_pairs.false;
    }) some (ap (λ r. record c.args.self.now { kind = Packet; read = r }) c.take_pairs-in-One.ensures.taken)
    c.take_pairs-in-One.ensures.rest
