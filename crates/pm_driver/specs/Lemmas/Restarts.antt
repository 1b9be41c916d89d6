-- Counts of restarts that go on.
use Rattle.std.specs.Prelude.{◌≡◌, ◌+◌, ℕ, List, [], ◌∷◌, ◌++◌}
use Rattle.std.proofs.Common.{arith}
use Rattle.pm_world.specs.declared.event.Event.{Event}
use Rattle.pm_driver.specs.Bus.{restarts_in}

-- the restarts among events are those of the later events and those of the earlier ones
restarts-append : (second first : List Event) → restarts_in (second ++ first) ≡ restarts_in second + restarts_in first
restarts-append [] first = omega arith
restarts-append (event ∷ second) first =
    let earlier = restarts-append second first in
    omega arith

-- a count that rose and rose again
pub restarts-on : (second first : List Event) (a b c : ℕ) → restarts_in first + a ≡ b → restarts_in second + b ≡ c →
    restarts_in (second ++ first) + a ≡ c
restarts-on second first a b c one two =
    let all = restarts-append second first in
    omega arith
