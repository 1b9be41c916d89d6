-- The letter, the name and the number of a delivery's refusal: `P8 BeyondFaultLimit`. This project's own choice.
use Rattle.std.specs.Prelude.{ℕ, List, codes}
use Rattle.pm_delivery.specs.declared.fault.DeliveryFault.{DeliveryFault}
use Rattle.pm_delivery.specs.declared.fault.DeliveryFault.TheVariants.{BeyondFaultLimit}

abbrev pub delivery_fault_words : DeliveryFault → List ℕ
delivery_fault_words (BeyondFaultLimit register word) = codes "P8 BeyondFaultLimit"

-- the number as `pmhost.h` has it
abbrev pub delivery_fault_number : DeliveryFault → ℕ
delivery_fault_number (BeyondFaultLimit register word) = 0x68
