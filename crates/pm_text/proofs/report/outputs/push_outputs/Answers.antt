use Rattle.std.proofs.Common.{◌∙◌, ◌<◌, ◌++◌, ap, arith, append_assoc, rules, string_bytes}
use Rattle.pm_text.specs.Report.{output_lines}
use Rattle.pm_lines.specs.Lemmas.Numbered.{numbered-all, numbered-more}
use Rattle.pm_text.proofs.report.outputs.push_outputs.Goals as goal

pub loop-output-preserved : goal.loop-output-preserved
loop-output-preserved c =
    let world = c.args.world.now in
    let there : c.loop-output.output < world.device.config.count = search rules in
    record {
      written = c.in_ok-push_output.ensures
          ∙ ap (λ t. t ++ output_lines c.args.form world c.loop-output.output) c.loop-output.invariant.written
          ∙ append_assoc (string_bytes c.args.text.now) _ _
          ∙ ap (λ l. string_bytes c.args.text.now ++ l)
          (numbered-more (output_lines c.args.form world) world.device.config.count c.loop-output.output there);
      within = omega (arith, there);
    }

pub returns : goal.returns
returns c =
    let world = c.args.world.now in
    c.loop-output.invariant.written
    ∙ ap (λ l. string_bytes c.args.text.now ++ l)
    (numbered-all (output_lines c.args.form world) world.device.config.count c.loop-output.output (search rules))
