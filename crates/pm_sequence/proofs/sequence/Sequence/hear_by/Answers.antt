use Rattle.std.proofs.Common.{◌≡◌, ◌∙◌, Bool, ap, sym, subst}
use Rattle.pm_host.specs.Told.{entry_told}
use Rattle.pm_stairs.specs.declared.sequence.Sequence.{Sequence as List}
use Rattle.pm_stairs.specs.Sequence.{heard_with}
use Rattle.pm_sequence.specs.declared.sequence.Fresh.{Fresh}
use Rattle.pm_sequence.specs.Frames.{HearsAt, alone, course, list_heard}
use Rattle.pm_sequence.proofs.sequence.Sequence.hear_by.Goals as goal

pub returns-in_default-clause-hears : goal.returns-in_default-clause-hears
returns-in_default-clause-hears g c =
    let hears = c.hear_at.ensures in
    alone (sym c.course_open.ensures ∙ c.in_default.is) (record {
      after = hears.after;
      limits = hears.limits;
      registers = hears.registers;
      step = hears.step;
      at = hears.stage;
    })

pub returns-clause-hears : goal.returns-clause-hears
returns-clause-hears g c =
    let old = g.H.Hosted.guarded c.args.host.now in
    let new = g.H.Hosted.guarded c.hear_course-restarted.new.host in
    let was = c.args.self.now in
    let entry = entry_told c.args.told in
    let is = c.hear_course-restarted.new.course in
    let result = c.hear_course-restarted.result.0 in
    let hears = c.hear_course-restarted.ensures in
    subst (λ (it : Fresh). HearsAt old was c.args.stage entry result new (record was { list = c.put_course.new.self; fresh = it }))
    (sym c.heard_fresh-fresh.ensures)
    (subst (λ (list : List). HearsAt old was c.args.stage entry result new (list_heard was entry list))
    (sym (c.put_course.ensures ∙ ap (λ (b : Bool). heard_with was.list is b) hears.restarted))
    (course c.in-Some.course is (sym c.course_open.ensures ∙ c.in-Some.is) hears.hears))
