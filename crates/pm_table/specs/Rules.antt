-- How refusals are put together: a rule names its fault where it applies, and the first of several counts.
use Rattle.std.specs.Prelude.{Bool, if◌then◌else◌, List, [], ◌∷◌, Option, Some, None}
use Rattle.std.specs.Option.{option_or}

-- a rule names its fault where it applies
abbrev pub rule : {X : Type 0} → Bool → X → Option X
rule applies fault = if applies then Some fault else None

-- the first of several that exists
abbrev pub first : {X : Type 0} → List (Option X) → Option X
first [] = None
first (fault ∷ faults) = option_or fault (first faults)
