-- What follows where a rule doesn't apply: proofs above take these by name, and no public clause cites them.
use Rattle.std.specs.Prelude.{◌≡◌, Bool, true, false, Option, Some, None, refl}
use Rattle.std.specs.Option.{option_map, option_or}
use Rattle.std.proofs.Common.{ap, ◌∙◌}
use Rattle.pm_table.specs.Rules.{rule}

-- each of two faults is none if the first of them is none
pub or-none : {X : Type 0} (one other : Option X) → option_or one other ≡ None → (one ≡ None) × (other ≡ None)
or-none None other h = (refl, h)
or-none (Some x) other h = cc

-- the first of two faults is none if each of them is none
pub none-or : {X : Type 0} (one other : Option X) → one ≡ None → other ≡ None → option_or one other ≡ None
none-or one other h k = ap (λ o. option_or o other) h ∙ k

-- a rule that names no fault does not apply
pub rule-none : {X : Type 0} (applies : Bool) (fault : X) → rule applies fault ≡ None → applies ≡ false
rule-none false fault h = refl
rule-none true fault h = cc

-- a rule that does not apply names no fault
pub none-rule : {X : Type 0} (applies : Bool) (fault : X) → applies ≡ false → rule applies fault ≡ None
none-rule applies fault h = ap (λ b. rule b fault) h

-- a fault is none if what it is made into is none
pub map-none : {X Y : Type 0} (f : X → Y) (fault : Option X) → option_map f fault ≡ None → fault ≡ None
map-none f None h = refl
map-none f (Some x) h = cc
