use Rattle.std.proofs.Common.{◌∙◌, sym, ap, arith, length}
use Rattle.pm_lines.specs.Lines.{without_return, is_line_feed}
use Rattle.pm_lines.proofs.LinesAndWords.{unskipped-after, unskipped-after_skipped, unskipped-end, lines-counted, lines-end, shorter}
use Rattle.pm_lines.proofs.lines.Lines.next_line.Goals as goal

pub returns-then-not-is_skipped_line-clause-unskipped : goal.returns-then-not-is_skipped_line-clause-unskipped
returns-then-not-is_skipped_line-clause-unskipped c =
    c.lines.invariant.unskipped
    ∙ unskipped-after _ c.lines.self-inside.rest.now _ _
    (c.without_carriage_return-text.ensures ∙ ap without_return c.cut_at.ensures.before)
    c.cut_at.ensures.after (sym c.is_empty.ensures ∙ c.lines-test.true) (sym c.is_skipped_line.ensures ∙ c.if-not-is_skipped_line.true)

pub returns-then-not-is_skipped_line-clause-count : goal.returns-then-not-is_skipped_line-clause-count
returns-then-not-is_skipped_line-clause-count c =
    omega (
      arith,
      c.lines.invariant.counted,
      lines-counted c.lines.self-inside.rest.now c.cut_at.result.1.now c.cut_at.ensures.after (sym c.is_empty.ensures ∙ c.lines-test.true),
    )

pub lines-preserved : goal.lines-preserved
lines-preserved c = record {
  unskipped =
      c.lines.invariant.unskipped
      ∙ unskipped-after_skipped _ c.lines.self-inside.rest.now _ _
      (c.without_carriage_return-text.ensures ∙ ap without_return c.cut_at.ensures.before)
      c.cut_at.ensures.after (sym c.is_empty.ensures ∙ c.lines-test.true) (sym c.is_skipped_line.ensures ∙ c.if-not-is_skipped_line.false);
  counted =
      omega (
        arith,
        c.lines.invariant.counted,
        lines-counted c.lines.self-inside.rest.now c.cut_at.result.1.now c.cut_at.ensures.after
            (sym c.is_empty.ensures ∙ c.lines-test.true),
      );
  bound =
      omega (
        arith,
        c.lines.invariant.bound,
        shorter is_line_feed c.lines.self-inside.rest.now c.cut_at.result.1.now c.cut_at.ensures.after
            (sym c.is_empty.ensures ∙ c.lines-test.true),
      );
}

pub returns-clause-unskipped : goal.returns-clause-unskipped
returns-clause-unskipped c =
    c.lines.invariant.unskipped ∙ unskipped-end _ c.lines.self-inside.rest.now (sym c.is_empty.ensures ∙ c.lines-test.false)

pub returns-clause-end : goal.returns-clause-end
returns-clause-end c =
    omega (arith, ap length (lines-end c.lines.self-inside.rest.now (sym c.is_empty.ensures ∙ c.lines-test.false)))

pub returns-clause-none : goal.returns-clause-none
returns-clause-none c = unskipped-end _ c.lines.self-inside.rest.now (sym c.is_empty.ensures ∙ c.lines-test.false)
