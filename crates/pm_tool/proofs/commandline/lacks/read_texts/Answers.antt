use Rattle.std.proofs.Common.{◌∙◌, ap, option_map, sym}
use Rattle.pm_tool.specs.Lacking.{lacks_in}
use Rattle.pm_tool.proofs.Options.{no_text, one_text}
use Rattle.pm_tool.proofs.commandline.lacks.read_texts.Goals as goal

pub returns-then-not-add_text : goal.returns-then-not-add_text
returns-then-not-add_text c =
    ap (option_map lacks_in) (sym (no_text c.args.texts.now c.loop-text.text-index _ c.loop-text-test.true c.loop-text.lacks.parts
    c.add_text.new.lacks.parts c.add_text.result c.add_text.ensures c.if-not-add_text.true) ∙ c.loop-text.invariant.same)

pub loop-text-preserved : goal.loop-text-preserved
loop-text-preserved c = record {
  same =
      one_text c.args.texts.now c.loop-text.text-index _ c.loop-text-test.true c.loop-text.lacks.parts
      c.add_text.new.lacks.parts c.add_text.result c.add_text.ensures c.if-not-add_text.false
      ∙ c.loop-text.invariant.same;
}
