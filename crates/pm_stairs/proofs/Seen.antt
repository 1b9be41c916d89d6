-- What is seen of a guard is what it is.
use Rattle.std.proofs.Common.{◌≡◌, ℕ, true, Option, Some, None, refl}
use Rattle.std.specs.Prelude.{nat_lt}
use Rattle.pm_host.specs.Summary.{Summary}
use Rattle.pm_limits.specs.declared.part_registers.PartRegisters.{PartRegisters}
use Rattle.pm_limits.specs.declared.output_limits.OutputLimits.{OutputLimits}
use Rattle.pm_limits.specs.Guard.{Guarded}
use Rattle.pm_rail.specs.declared.fault.PlanFault.{PlanFault}
use Rattle.pm_rail.specs.declared.wanted.Wanted.{Wanted}
use Rattle.pm_rail.specs.Orders.{plan_of}
use Rattle.pm_rail.specs.Registers.{Wants}
use Rattle.pm_stairs.specs.declared.step.WordStep.{WordStep}
use Rattle.pm_stairs.specs.WayBack.{goal_of_step, lasting, plan_fault, way_back_fault}

-- a plan by what is seen is one by the guard
pub planned : {part p : PartRegisters} {s t : Summary} {l m : OutputLimits} → part ≡ p → s ≡ t → l ≡ m → (output : ℕ) (wants : Wants)
    → plan_of part s l output wants ≡ plan_of p t m output wants
planned part-is s-is l-is output wants = rw (part-is, s-is, l-is) refl

-- the fault of a way back whose words are known
pub back-some : (g : Guarded) (back : WordStep) (wanted : Wanted) (fault : PlanFault) → nat_lt back.output 8 ≡ true
    → goal_of_step g.host back.output back.act ≡ Some wanted → plan_fault g back.output wanted ≡ Some fault
    → way_back_fault g back ≡ lasting fault
unfolding way_back_fault
back-some g back wanted fault small goal is = rw (small, goal, is) refl

pub back-none : (g : Guarded) (back : WordStep) (wanted : Wanted) → nat_lt back.output 8 ≡ true
    → goal_of_step g.host back.output back.act ≡ Some wanted → plan_fault g back.output wanted ≡ None → way_back_fault g back ≡ None
unfolding way_back_fault
back-none g back wanted small goal is = rw (small, goal, is) refl
