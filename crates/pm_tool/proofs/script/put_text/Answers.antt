use Rattle.std.proofs.Common.{◌∙◌, ◌+◌, ◌<◌, ◌++◌, take, drop, sym, ap, subst, append_assoc, arith}
use Rattle.std.specs.List.{flat_map, range_with_len}
use Rattle.std.specs.Io.KnownBytes.{Appends}
use Rattle.std.proofs.KnownBytes.{Appends-trans}
use Rattle.pm_lines.specs.Streams.{AppendsFront}
use Rattle.pm_tool.specs.Script.{output_at}
use Rattle.pm_lines.specs.Lemmas.Numbered.{numbered-all, numbered-at, numbered-more}
use Rattle.pm_lines.specs.Lemmas.Writing.{AppendsFront-first, AppendsFront-later, on_err}
use Rattle.pm_tool.proofs.script.put_text.Goals as goal

pub returns-in_err-put-clause-front : goal.returns-in_err-put-clause-front
returns-in_err-put-clause-front g c = on_err c.from_residual.result _ (AppendsFront-first _ _ _ _ c.in_err-put.ensures.front)

pub returns-in_err-put-2-clause-front : goal.returns-in_err-put-2-clause-front
returns-in_err-put-2-clause-front g c =
    let held = c.args.converter.now in
    let n = held.config.count in
    let i = c.outputs.output in
    let short = subst (λ b. AppendsFront (g.W.Write.contents c.outputs.writer.inner)
    (g.W.Write.contents c.put-in-outputs.new.self.inner) b) c.line_at.ensures c.in_err-put-2.ensures.front in
    on_err c.from_residual-in_err-put-2.result _ (AppendsFront-later _ _ _ _ (output_at held i) (flat_map (output_at held) (drop (i + 1)
    (range_with_len 0 n))) _ (record {
      written = c.outputs.invariant.written;
      short = short;
      parts =
          ap (λ l. c.args.lines.now ++ l) (numbered-at (output_at held) n i (omega
          (arith, c.outputs-test.true, c.count-output-end.ensures.count))) ∙ sym (append_assoc c.args.lines.now _ _);
    }))

pub outputs-preserved : goal.outputs-preserved
outputs-preserved g c =
    let held = c.args.converter.now in
    let n = held.config.count in
    let i = c.outputs.output in
    let there : i < n = omega (arith, c.outputs-test.true, c.count-output-end.ensures.count) in
    let both = Appends-trans _ _ _ _ _ c.outputs.invariant.written c.in_ok-put-2.ensures.all in
    record {
      written = subst (λ b. Appends (g.W.Write.contents c.args.writer.now.inner) (g.W.Write.contents c.put-in-outputs.new.self.inner) b)
          (ap (λ l. (c.args.lines.now ++ flat_map (output_at held) (take i (range_with_len 0 n))) ++ l) c.line_at.ensures
          ∙ append_assoc c.args.lines.now _ _ ∙ ap (λ l. c.args.lines.now ++ l) (numbered-more (output_at held) n i there)) both;
      sound = c.in_ok-put-2.ensures.failed;
      within = omega (arith, there);
    }

pub returns-clause-all : goal.returns-clause-all
returns-clause-all g c =
    let held = c.args.converter.now in
    subst (λ l. Appends (g.W.Write.contents c.args.writer.now.inner) (g.W.Write.contents c.outputs.writer.inner) (c.args.lines.now ++ l))
    (numbered-all (output_at held) held.config.count c.outputs.output (omega
    (arith, c.outputs-test.false, c.count-output-end.ensures.count))) c.outputs.invariant.written
