use Rattle.std.specs.Prelude.{◌≡◌, Ok, Result}
use Rattle.std.specs.Result.{result_err}
use Rattle.std.proofs.Common.{refl, subst, sym, ◌∙◌, ap}
use Rattle.pm_limits.specs.declared.fault.LimitFault.{LimitFault}
use Rattle.pm_limits.specs.Guard.{LetsBegin}
use Rattle.pm_rail.specs.declared.course.Course.{Course}
use Rattle.pm_rail.specs.declared.next.Next.TheVariants.{Job, Ended}
use Rattle.pm_rail.specs.Course.{BeginsNext, begun, next_by, over, refused}
use Rattle.pm_rail.proofs.course.Course.begin.Goals as goal

pub returns-in-Ended : goal.returns-in-Ended
returns-in-Ended c =
    let said : next_by c.args.guard.now c.args.self.now ≡ Ended c.in-Ended.end = sym c.next.ensures.says ∙ c.in-Ended.is in
    record {
      begins = subst (λ (a : Course). BeginsNext c.args.guard.now c.args.self.now c.args.guard.now (Ok (Ended c.in-Ended.end)) a)
          (sym c.next.ensures.after) (over c.in-Ended.end said refl);
    }

pub returns-in-Err : goal.returns-in-Err
returns-in-Err c =
    let said : next_by c.args.guard.now c.args.self.now ≡ Job c.in-Job.job = sym c.next.ensures.says ∙ c.in-Job.is in
    record {
      begins = refused c.in-Job.job c.in-Err.fault said
          (sym c.begin.ensures.fault ∙ ap (λ (r : Result (Unit {0}) LimitFault). result_err r) c.in-Err.is)
          c.in-Err.ensures.err;
    }

pub returns-in-Ok : goal.returns-in-Ok
returns-in-Ok c =
    let said : next_by c.args.guard.now c.args.self.now ≡ Job c.in-Job.job = sym c.next.ensures.says ∙ c.in-Job.is in
    let lets : LetsBegin c.args.guard.now c.in-Job.job (Ok tt) c.begin.new.self =
    subst (λ (r : Result (Unit {0}) LimitFault). LetsBegin c.args.guard.now c.in-Job.job r c.begin.new.self) c.in-Ok.is c.begin.ensures in
    record {
      begins = subst (λ (a : Course). BeginsNext c.args.guard.now c.args.self.now c.begin.new.self (Ok (Job c.in-Job.job)) a)
          (sym c.next.ensures.after) (begun c.in-Job.job said lets);
    }
