use Rattle.std.specs.Prelude.{◌≡◌, ◌&&◌, ℕ, Bool, true, false, not, if◌then◌else◌, refl, Option, Some, None, is_none, Ok}
use Rattle.std.specs.Option.{is_some}
use Rattle.std.proofs.Common.{◌∙◌, ap, sym}
use Rattle.pm_host.specs.Image.{held}
use Rattle.pm_rail.specs.declared.wanted.Wanted.{Wanted}
use Rattle.pm_rail.specs.Orders.{plan_of}
use Rattle.pm_rail.specs.Registers.{wants_of}
use Rattle.pm_rail.specs.Survey.{is_surveyed, wanted_in}
use Rattle.pm_rail.specs.Course.{order_by}
use Rattle.pm_rail.proofs.course.Course.order_next.Goals as goal
use Rattle.pm_rail.proofs.course.Course.order_next.Goals.{then-is_none+else-is_done_in, else-is_none}

-- something is wanted, or the survey hasn't ended
some-wanted : (plan : Option Wanted) (b r : Bool) → is_some plan ≡ not r → r ≡ false → (is_none plan && b) ≡ false
some-wanted None b true e f = cc
some-wanted None b false e f = cc
some-wanted (Some w) b r e f = refl

not-ended : (plan : Option Wanted) (b : Bool) → b ≡ false → (is_none plan && b) ≡ false
not-ended None b e = e
not-ended (Some w) b e = refl

pub returns-in-None-2 : goal.returns-in-None-2
returns-in-None-2 c =
    let s = held c.args.stage c.args.host.now in
    let v = c.args.self.now.survey in
    let none : (is_none v.plan && is_surveyed c.args.part v s) ≡ false = elim c.if-is_none.branch [
      | then-is_none+else-is_done_in w ↦ not-ended v.plan (is_surveyed c.args.part v s) (sym w.is_done_in.ensures ∙ w.if-is_done_in.false)
      | else-is_none w ↦ some-wanted v.plan (is_surveyed c.args.part v s) c.is_none.result c.is_none.ensures w.if-is_none.false
    ] in
    c.next_order_in.ensures
    ∙ ap (λ (w : Wanted). plan_of c.args.part s c.args.limits.now v.output (wants_of w)) c.wanted_of-wanted.ensures
    ∙ sym (ap (λ (b : Bool). if b then Ok None else plan_of c.args.part s c.args.limits.now v.output (wants_of (wanted_in v.plan))) none)
    ∙ ap (λ (b : Option ℕ). order_by c.args.part c.args.limits.now s v b) (sym c.in-None-2.is)
