-- What a plan needs is known, and what it wants the part has: no promise, but what proofs above cite.
use Rattle.std.specs.Prelude.{◌≡◌, ℕ, Bool, true, false, not, is_none, is_some, unwrap_or, Option, Some, None, Result, Ok, Err, refl}
use Rattle.pm_table.specs.declared.reg.Reg.{Reg}
use Rattle.pm_table.specs.declared.reg.Reg.TheVariants.{Operation, VoutCommand}
use Rattle.pm_limits.specs.declared.part_registers.PartRegisters.{PartRegisters}
use Rattle.pm_limits.specs.Part.{has_register}
use Rattle.pm_rail.specs.declared.fault.PlanFault.{PlanFault}
use Rattle.pm_rail.specs.declared.fault.PlanFault.TheVariants.{MissingRegister}
use Rattle.pm_rail.specs.declared.orders.PlanOrder.{PlanOrder}
use Rattle.pm_rail.specs.Course.{is_last}
use Rattle.pm_rail.specs.Lemmas.Known.{none-voltage, not-second}
use Rattle.pm_rail.specs.Orders.{is_wanted_missing, missing_fault}
use Rattle.pm_rail.specs.Registers.{Wants}

-- a word that is known, as an option
pub known-is : (word : Option ℕ) → is_none word ≡ false → word ≡ Some (unwrap_or word 0)
known-is None some = cc
known-is (Some word) some = refl

-- the part has each register of which a word is wanted, if none is wanted of a missing one
pub wanted-has : (part : PartRegisters) (wants : Wants) → missing_fault part wants ≡ None → (register : Reg) →
    is_some (wants register) ≡ true → has_register part register ≡ true
wanted-has part wants there Operation some = refl
wanted-has part wants there VoutCommand some = refl
wanted-has part wants there register some = un-not (has_register part register)
    (not-second (is_some (wants register)) (not (has_register part register))
    (none-voltage (λ r. MissingRegister r) (is_wanted_missing part wants) there register refl) some)
  where
    un-not : (b : Bool) → not b ≡ false → b ≡ true
    un-not true h = refl
    un-not false h = cc

-- no order is left
pub last-none : (o : Result (Option PlanOrder) PlanFault) → is_last o ≡ true → o ≡ Ok None
last-none (Ok None) is = refl
last-none (Ok (Some order)) is = cc
last-none (Err fault) is = cc
