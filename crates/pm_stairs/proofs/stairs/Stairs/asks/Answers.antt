use Rattle.std.proofs.Common.{◌≡◌, Bool, true, false, ap, sym, subst, ◌∙◌}
use Rattle.pm_limits.specs.Guard.{Guarded}
use Rattle.pm_course.specs.declared.frame_course.FrameCourse.{FrameCourse}
use Rattle.pm_stairs.specs.declared.said.Said.{Said}
use Rattle.pm_stairs.specs.declared.said.StepEnd.{StepEnd}
use Rattle.pm_stairs.specs.declared.stairs.Move.{Move}
use Rattle.pm_stairs.specs.declared.stairs.Move.TheVariants.{Stops}
use Rattle.pm_stairs.specs.declared.stairs.Stairs.{Stairs}
use Rattle.pm_stairs.specs.declared.step.WordStep.{WordStep}
use Rattle.pm_stairs.specs.Stairs.{AsksAhead, SaysStep, absent, stairs_ahead_after, ahead_move, asks, begins_now, stairs_reading_for}
use Rattle.pm_stairs.specs.Steps.{noted}
use Rattle.pm_stairs.proofs.stairs.Stairs.asks.Goals as goal
use Rattle.pm_stairs.proofs.stairs.Stairs.asks.Goals.{then-begins_now, else-begins_now}

-- what is named and what becomes of the stairs are those of what is said
asked : (g : Guarded) (step : WordStep) (course : FrameCourse) (old : Stairs) (said : Said) (after : FrameCourse) (next : Move) (new : Stairs)
    → SaysStep g false step course said after → next ≡ ahead_move (noted g.host step) said
    → new ≡ stairs_ahead_after old step after (begins_now said) → AsksAhead g step course old next new
asked g step course old said after next new says is_next is_new =
    subst (λ (s : Stairs). AsksAhead g step course old next s) (sym is_new)
    (subst (λ (m : Move). AsksAhead g step course old m (stairs_ahead_after old step after (begins_now said))) (sym is_next) (asks said after says))

pub returns-then-not-are_there : goal.returns-then-not-are_there
returns-then-not-are_there g c =
    let gone : AsksAhead (g.S.Sight.guarded c.args.guard.now) c.args.step.now c.args.course.now c.args.self.now (Stops _) _ =
    absent (sym c.are_there.ensures.is ∙ c.if-not-are_there.true) in
    subst (λ (s : Stairs). AsksAhead (g.S.Sight.guarded c.args.guard.now) c.args.step.now c.args.course.now c.args.self.now
    (Stops c.absent.result) s)
    (sym c.reads_for.ensures)
    (subst (λ (why : StepEnd). AsksAhead (g.S.Sight.guarded c.args.guard.now) c.args.step.now c.args.course.now c.args.self.now (Stops why)
    (stairs_reading_for c.args.self.now c.args.course.now)) (sym c.absent.ensures) gone)

pub returns : goal.returns
returns g c =
    let said : Said = c.ask-said.result in
    let after : FrameCourse = c.ask-said.new.course in
    let is : (b : Bool) → c.begins_now.result ≡ b → begins_now said ≡ b = λ b e. sym c.begins_now.ensures ∙ e in
    asked (g.S.Sight.guarded c.args.guard.now) c.args.step.now c.args.course.now c.args.self.now said after c.ahead_move.result
    c.if-begins_now.self
    c.ask-said.ensures
    (c.ahead_move.ensures ∙ ap (λ (back : WordStep). ahead_move back said) c.noted.ensures)
    (elim c.if-begins_now.branch [
      | then-begins_now w ↦ w.self-is ∙ w.begins.ensures
          ∙ ap (λ (b : Bool). stairs_ahead_after c.args.self.now c.args.step.now after b) (sym (is true w.if-begins_now.true))
      | else-begins_now w ↦ w.self-is ∙ w.reads_for-else-begins_now.ensures
          ∙ ap (λ (b : Bool). stairs_ahead_after c.args.self.now c.args.step.now after b) (sym (is false w.if-begins_now.false))
    ])
