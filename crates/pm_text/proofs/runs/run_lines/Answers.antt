use Rattle.std.proofs.Common.{◌∷◌, ◌^◌, ◌<◌, arith, rules}
use Rattle.pm_text.proofs.Scenarios.{one-more, room-left, stops-there}
use Rattle.pm_text.proofs.runs.run_lines.Goals as goal

pub returns-in-Err : goal.returns-in-Err
returns-in-Err c =
    rw c.in-Err.ensures.taken.1 (stops-there c.args.form c.args.rows.now.lines _ c.args.world.now c.lines.world c.lines.taken _
    c.lines.invariant.1 _ _ c.in-Some.ensures.lines _ c.in_ok-read_line.ensures _ c.in-Err.ensures.taken.0
    c.in_ok-judge_lines.ensures)

pub overflow_add-taken : goal.overflow_add-taken
overflow_add-taken c =
    let free = room-left c.lines.world _ c.in_default-step.ensures.taken.0 in
    let room = c.lines.invariant.1.room in
    let few : c.lines.taken < 2 ^ 48 = omega (arith, free, room) in
    search rules

pub lines-preserved : goal.lines-preserved
lines-preserved c = (
  c.read_line.new.event ∷ c.lines.invariant.0,
  one-more c.args.form c.args.rows.now.lines _ c.args.world.now c.lines.world c.lines.taken _ c.lines.invariant.1 _ _
      c.in-Some.ensures.lines _ c.in_ok-read_line.ensures _ c.in_default-step.ensures.taken.0 c.in_default-step.ensures.taken.1,
)
