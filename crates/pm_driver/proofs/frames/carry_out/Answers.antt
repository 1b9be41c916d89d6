use Rattle.std.proofs.Common.{[], None, Some, refl, ◌∙◌}
use Rattle.pm_driver.proofs.Lives.{leads-nothing}
use Rattle.pm_driver.proofs.frames.carry_out.Goals as goal

pub frames-init : goal.frames-init
frames-init g c = record {
  leads = leads-nothing g.B.Bus.gives g.B.Bus.held g.B.Bus.restarts (record { host = c.args.guard.now.host; bus = c.args.bus.now });
  some = refl;
  limits = refl;
  registers = refl;
  kept = refl;
}

pub returns-in-None-clause-leads : goal.returns-in-None-clause-leads
returns-in-None-clause-leads g c =
    c.leads_compose.ensures [] [] None None _ _ _ c.frames.invariant.leads c.in-None.ensures.leads

pub frames-preserved : goal.frames-preserved
frames-preserved g c = record {
  leads = c.leads_compose.ensures [] [] None None _ _ _ c.frames.invariant.leads
      (rw c.in-Some-Next.field-0-is at c.in-Some-Next.ensures).leads;
  some = (let open_now = (rw c.in-Some-Next.field-0-is at c.in-Some-Next.ensures).open in
      open_now ∙ (c.in-Some-Next.ensures.some ∙ c.frames.invariant.some));
  limits = c.in-Some-Next.ensures.limits ∙ c.frames.invariant.limits;
  registers = c.in-Some-Next.ensures.registers ∙ c.frames.invariant.registers;
  kept = c.in-Some-Next.ensures.kept ∙ c.frames.invariant.kept;
}

pub returns-in-Some-Ended-clause-leads : goal.returns-in-Some-Ended-clause-leads
returns-in-Some-Ended-clause-leads g c =
    c.leads_compose.ensures [] [] None (Some c.in-Some-Ended.end) _ _ _ c.frames.invariant.leads
    (rw c.in-Some-Ended.field-0-is at c.in-Some-Ended.ensures).leads
