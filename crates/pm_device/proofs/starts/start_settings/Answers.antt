use Rattle.std.proofs.Common.{◌≡◌, ◌∙◌, sym, subst, true, arith}
use Rattle.pm_table.specs.Cell.{register_accepts}
use Rattle.pm_table.specs.declared.cell.Cell.TheVariants.{Out, Protect}
use Rattle.pm_device.proofs.Start.{row-start, all-start}
use Rattle.pm_device.proofs.starts.start_settings.Goals as goal

pub new-requires-clause-registers : goal.new-requires-clause-registers
new-requires-clause-registers c output register here =
    subst (λ w. register_accepts register w ≡ true)
    (sym (row-start c.args.config.now _ output register (c.rows.ensures output (omega (arith, here, c.requires.few)))))
    (c.requires.starts (Out output register) here)

pub new-requires-clause-protection : goal.new-requires-clause-protection
new-requires-clause-protection c = c.requires.starts Protect tt

pub returns-clause-words : goal.returns-clause-words
returns-clause-words c =
    all-start c.args.config.now c.new.result.words
    (λ word. c.settings_are_a_map.ensures.one c.new.result.words word c.new.ensures.words)
    (λ output register few.
    c.new.ensures.registers output register few
    ∙ row-start c.args.config.now _ output register (c.rows.ensures output few))
    c.new.ensures.protection
