use Rattle.std.proofs.Common.{◌≡◌, ◌<◌, ℕ, true, false, is_some, refl, sym, ◌∙◌, ap, subst}
use Rattle.pm_host.specs.Refusals.{is_busy}
use Rattle.std.proofs.lemmas.Option.{none-some, same_Some}
use Rattle.pm_course.specs.declared.course_end.CourseEnd.{CourseEnd}
use Rattle.pm_limits.specs.Guard.{Guarded}
use Rattle.pm_driver.specs.Courses.{Carries, EndsAt}
use Rattle.pm_driver.proofs.CourseSteps.{carries-job, carries-nothing, hands-over, none-restarts}
use Rattle.pm_driver.proofs.frames.carry_course.Goals as goal

pub jobs-init : goal.jobs-init
jobs-init g c = record {
  carries = carries-nothing g.B.Bus.gives g.B.Bus.held g.B.Bus.restarts c.args.guard.now.registers c.args.course.now false
      (record { host = c.args.guard.now.host; bus = c.args.bus.now });
  idle = c.requires.idle;
  output = refl;
  fresh = λ ended. ended;
  limits = refl;
  registers = refl;
  kept = refl;
}

pub jobs-smaller : goal.jobs-smaller
jobs-smaller g c =
    let handed = hands-over c.laws_of_lives.ensures c.courses_end.ensures g.B.Bus.gives g.B.Bus.held g.B.Bus.restarts c.jobs.bus
    c.jobs.guard c.frame.new.host c.jobs.course c.frame.new.self c.frame.result c.jobs.invariant.idle c.frame.ensures.hands in
    let busy : is_busy c.frame.new.host.host ≡ true = sym handed.sends ∙ ap is_some c.in-Some.is in
    subst (λ (n : ℕ). n < c.jobs.course.course.survey.left) (sym c.carry_job.ensures.keeps.left) (handed.left busy)

pub jobs-preserved : goal.jobs-preserved
jobs-preserved g c =
    let handed = hands-over c.laws_of_lives.ensures c.courses_end.ensures g.B.Bus.gives g.B.Bus.held g.B.Bus.restarts c.jobs.bus
    c.jobs.guard c.frame.new.host c.jobs.course c.frame.new.self c.frame.result c.jobs.invariant.idle c.frame.ensures.hands in
    let busy : is_busy c.frame.new.host.host ≡ true = sym handed.sends ∙ ap is_some c.in-Some.is in
    let keeps = c.carry_job.ensures.keeps in
    record {
      carries = carries-job g.B.Bus.gives g.B.Bus.held g.B.Bus.restarts c.jobs.bus c.args.guard.now.registers c.jobs.guard c.frame.new.host
          c.args.course.now c.jobs.course c.frame.new.self c.carry_job.new.course c.frame.result
          (record { host = c.args.guard.now.host; bus = c.args.bus.now })
          (record { host = c.carry_job.new.guard.host; bus = c.carry_job.new.bus }) busy c.jobs.invariant.carries handed
          c.jobs.invariant.registers c.carry_job.ensures.carries;
      idle = c.carry_job.ensures.idle;
      output = keeps.output ∙ (handed.output ∙ c.jobs.invariant.output);
      fresh = λ ended. (let some = keeps.fresh ended in let none = handed.fresh busy in cc);
      limits = keeps.limits ∙ (handed.limits ∙ c.jobs.invariant.limits);
      registers = keeps.registers ∙ (handed.registers ∙ c.jobs.invariant.registers);
      kept = keeps.kept ∙ (handed.kept ∙ c.jobs.invariant.kept);
    }

pub returns-in-Some-end : goal.returns-in-Some-end
returns-in-Some-end g c =
    let handed = hands-over c.laws_of_lives.ensures c.courses_end.ensures g.B.Bus.gives g.B.Bus.held g.B.Bus.restarts c.jobs.bus
    c.jobs.guard c.frame.new.host c.jobs.course c.frame.new.self c.frame.result c.jobs.invariant.idle c.frame.ensures.hands in
    let idle : is_busy c.frame.new.host.host ≡ false = sym handed.sends ∙ ap is_some c.in-None.is in
    let ends = handed.ends idle in
    let carries = subst (λ (x : Guarded). Carries g.B.Bus.gives g.B.Bus.held g.B.Bus.restarts c.args.guard.now.registers c.args.course.now
    false (record { host = c.args.guard.now.host; bus = c.args.bus.now }) c.jobs.course false (record { host = x.host; bus = c.jobs.bus }))
    (sym ends.0) c.jobs.invariant.carries in
    let end_is : ends.1.0 ≡ c.in-Some-end.end = same_Some ends.1.0 c.in-Some-end.end (sym ends.1.1 ∙ (sym c.end.ensures ∙ c.in-Some-end.is)) in
    record {
      last = c.jobs.course;
      carries = carries;
      ends = subst (λ (x : Guarded). EndsAt x c.jobs.course c.in-Some-end.end c.frame.new.self) (sym ends.0)
          (subst (λ (e : CourseEnd). EndsAt c.jobs.guard c.jobs.course e c.frame.new.self) end_is ends.1.2);
      fresh = c.jobs.invariant.fresh;
      steady = λ same. none-restarts carries.leads.events (g.B.Bus.restarts c.args.bus.now) (g.B.Bus.restarts c.jobs.bus)
          carries.leads.count same;
      idle = idle;
      output = handed.output ∙ c.jobs.invariant.output;
      limits = handed.limits ∙ c.jobs.invariant.limits;
      registers = handed.registers ∙ c.jobs.invariant.registers;
      kept = handed.kept ∙ c.jobs.invariant.kept;
    }

pub unreachable-requires : goal.unreachable-requires
unreachable-requires g c =
    let handed = hands-over c.laws_of_lives.ensures c.courses_end.ensures g.B.Bus.gives g.B.Bus.held g.B.Bus.restarts c.jobs.bus
    c.jobs.guard c.frame.new.host c.jobs.course c.frame.new.self c.frame.result c.jobs.invariant.idle c.frame.ensures.hands in
    let idle : is_busy c.frame.new.host.host ≡ false = sym handed.sends ∙ ap is_some c.in-None.is in
    let ends = handed.ends idle in
    none-some ends.1.0 (sym (sym c.end.ensures ∙ c.in-None-end.is) ∙ ends.1.1)
