use Rattle.pm_rail.specs.Lemmas.Steps.{uncut_goal_is_step, any}
use Rattle.pm_rail.proofs.laws.plans_are_without_glitch.Goals as goal

pub returns : goal.returns
returns c = record { one = uncut_goal_is_step; any = any }
