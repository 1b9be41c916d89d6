use Rattle.std.proofs.Common.{◌∙◌, ap, rules, sym}
use Rattle.pm_tool.specs.Lacking.{lacks_names}
use Rattle.pm_tool.specs.Question.{items}
use Rattle.pm_tool.proofs.Options.{fewer_names, last_name, no_name, one_name}
use Rattle.pm_tool.proofs.commandline.lacks.add_names.Goals as goal

pub returns-then-not-add_name : goal.returns-then-not-add_name
returns-then-not-add_name c =
    no_name c.names.lacks.parts _ c.args.addr c.in-Some.name.now c.add_name.result c.add_name.ensures (items c.in-Some.after.now)
    c.if-not-add_name.true
    ∙ ap (lacks_names c.names.lacks.parts c.args.addr) (sym c.in-Some.ensures) ∙ c.names.invariant.same

pub names-smaller : goal.names-smaller
names-smaller c = fewer_names c.names.left.now c.in-Some.name.now c.in-Some.after.now c.in-Some.ensures

pub names-preserved : goal.names-preserved
names-preserved c = record {
  utf8 = search rules;
  same =
      sym (one_name c.names.lacks.parts _ c.args.addr c.in-Some.name.now c.add_name.result c.add_name.ensures (items c.in-Some.after.now)
      c.if-not-add_name.false)
      ∙ ap (lacks_names c.names.lacks.parts c.args.addr) (sym c.in-Some.ensures) ∙ c.names.invariant.same;
}

pub returns-in-None : goal.returns-in-None
returns-in-None c =
    last_name c.names.lacks.parts _ c.args.addr c.names.left.now c.add_name-in-None.result c.add_name-in-None.ensures
    ∙ ap (lacks_names c.names.lacks.parts c.args.addr) (sym c.in-None.ensures) ∙ c.names.invariant.same
