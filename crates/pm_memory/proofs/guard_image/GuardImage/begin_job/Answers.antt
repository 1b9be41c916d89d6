use Rattle.std.proofs.Common.{◌≡◌, ◌∙◌, ◌≤◌, ◌*◌, Option, Some, None, Ok, Err, ap, refl, sym, subst}
use Rattle.std.specs.Prelude.{IsSomeAnd}
use Rattle.pm_host.specs.declared.stage.Stage.{Stage}
use Rattle.pm_host.specs.declared.state.State.{State}
use Rattle.pm_host.specs.Frames.{frames_left}
use Rattle.pm_host.specs.Image.{held}
use Rattle.pm_host.specs.Jobs.{HasNearestWord, accepted_job}
use Rattle.pm_host.specs.Summary.{Summary, host_next}
use Rattle.pm_host.specs.Transcript.{Accepted}
use Rattle.pm_limits.specs.declared.output_limits.OutputLimits.{OutputLimits}
use Rattle.pm_limits.specs.declared.part_registers.PartRegisters.{PartRegisters}
use Rattle.pm_limits.specs.declared.fault.LimitFault.{LimitFault}
use Rattle.pm_limits.specs.Guard.{BeginsUnless, guard_fault, limited_fault}
use Rattle.pm_memory.specs.declared.guard_image.GuardImage.{GuardImage}
use Rattle.pm_memory.specs.Guard.{job_limits, limits_kept}
use Rattle.pm_memory.specs.Hosted.{IsThere, guard_in}
use Rattle.pm_memory.proofs.Kept.{limits-stay, means, there-of}
use Rattle.pm_memory.proofs.guard_image.GuardImage.begin_job.Goals as goal

pub returns-in-Ok-clause-there : goal.returns-in-Ok-clause-there
returns-in-Ok-clause-there c =
    let was = c.args.self.now in
    let new : GuardImage = record { host = c.write_stage.new.self; registers = was.registers; unused = was.unused; limits = was.limits } in
    there-of new (held (Some c.in-Ok.at) c.begin_within.new.state) c.write_stage.ensures.host c.in-Ok.ensures.sound

pub returns-in-Ok-clause-begins : goal.returns-in-Ok-clause-begins
returns-in-Ok-clause-begins c =
    let was = c.args.self.now in
    let job = c.args.job in
    let new : GuardImage = record { host = c.write_stage.new.self; registers = was.registers; unused = was.unused; limits = was.limits } in
    let old = guard_in was in
    let s0 = held c.args.stage was.host.state in
    let s = held (Some c.in-Ok.at) c.begin_within.new.state in
    let is : (guard_in new).host ≡ s = means new s c.write_stage.ensures.host in
    let whole : s0 ≡ old.host = ap (λ (at : Option Stage). held at was.host.state) c.requires.stage ∙ c.requires.there.whole in
    let did = c.in-Ok.ensures in
    record {
      fault = did.fault
          ∙ ap (λ (r : PartRegisters). limited_fault r c.limits_for-limits.result s0 job) c.registers-registers.ensures
          ∙ ap (λ (l : OutputLimits). limited_fault old.registers l s0 job) c.limits_for-limits.ensures
          ∙ ap (λ (x : Summary). limited_fault old.registers (job_limits (limits_kept was) job) x job) whole;
      ok = subst (λ (y : Summary). IsSomeAnd (accepted_job old.host job) (λ begun. y ≡ host_next old.host (Accepted begun))) (sym is)
          (subst (λ (x : Summary). IsSomeAnd (accepted_job x job) (λ begun. s ≡ host_next x (Accepted begun))) whole did.ok);
      nearest = subst (λ (x : Summary). HasNearestWord x job) whole did.nearest;
      err = tt;
      limits = limits-stay was c.write_stage.new.self;
      registers = refl;
      kept = ap (λ (x : Summary). x.setup) is ∙ did.kept ∙ ap (λ (x : Summary). x.setup) whole;
      left = subst (λ (x : Summary). frames_left x ≤ 2 * x.setup.passes) (sym is) did.left;
    }

pub returns-in-Err-clause-there : goal.returns-in-Err-clause-there
returns-in-Err-clause-there c =
    let was = c.args.self.now in
    subst (λ (st : State). IsThere (record {
      host = record { mark = was.host.mark; version = was.host.version; stage = was.host.stage; state = st };
      registers = was.registers;
      unused = was.unused;
      limits = was.limits;
    })) (sym c.in-Err.ensures.err) c.requires.there

pub returns-in-Err-clause-begins : goal.returns-in-Err-clause-begins
returns-in-Err-clause-begins c =
    let was = c.args.self.now in
    let job = c.args.job in
    let old = guard_in was in
    let s0 = held c.args.stage was.host.state in
    let whole : s0 ≡ old.host = ap (λ (at : Option Stage). held at was.host.state) c.requires.stage ∙ c.requires.there.whole in
    let fault : Some c.in-Err.fault ≡ guard_fault old job = c.in-Err.ensures.fault
    ∙ ap (λ (r : PartRegisters). limited_fault r c.limits_for-limits.result s0 job) c.registers-registers.ensures
    ∙ ap (λ (l : OutputLimits). limited_fault old.registers l s0 job) c.limits_for-limits.ensures
    ∙ ap (λ (x : Summary). limited_fault old.registers (job_limits (limits_kept was) job) x job) whole in
    subst (λ (st : State). BeginsUnless (guard_fault old job) old job (Err c.in-Err.fault) (guard_in (record {
      host = record { mark = was.host.mark; version = was.host.version; stage = was.host.stage; state = st };
      registers = was.registers;
      unused = was.unused;
      limits = was.limits;
    }))) (sym c.in-Err.ensures.err)
    (record { fault = fault; ok = tt; nearest = tt; err = refl; limits = refl; registers = refl; kept = refl; left = tt })
